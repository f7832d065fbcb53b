-- Laws on the largest variable of a list.
-- Assumes nothing.
use mathlib.Core.Path.{◌≡◌}
use mathlib.Core.List.Memᴰ
use mathlib.Core.List.{List, [], ◌∷◌}
use Prim.Native.Nat.{ℕ, ◌+◌, ◌<◌, ◌≤◌, max}
use native.Mathlib.Numerals.{add-one}
use native.Mathlib.Omega.{arith}
use lib.Dec.{leb}
use lib.IntN.{ℤ, pos}
use lib.ListN.{length, drop, get_or, drop_of_length-le}
use lib.Seq.{drop-cons}
use Rattle.words.specs.Lists.{◌∈◌, all}
use Rattle.words.specs.Literals.{variable, top}
use Rattle.words.proofs.Lists.{Decides, reworded, and-decides, all-decides, leb-decides}

pub top-on : (l : List ℤ) (i : ℕ) → i < length l → top (drop i l) ≡ max (variable (get_or l i (pos 0))) (top (drop (i + 1) l))
top-on l i h = rw (add-one, drop-cons l i (pos 0) h)

pub top-none : (l : List ℤ) {i : ℕ} → length l ≤ i → top (drop i l) ≡ 0
top-none l h = rw (drop_of_length-le l h)

-- no variable is above it
pub top-le : {x : ℤ} {zs : List ℤ} → x ∈ zs → variable x ≤ top zs
top-le (Memᴰ.head {x = y} {xs = zs} p) = rw p (omega arith)
top-le (Memᴰ.tail {x = y} {xs = zs} m) = omega (arith, top-le m)

pub top-decides : (n : ℕ) (l : List ℤ) → Decides (all (λ x. leb (variable x) n) l) (top l ≤ n)
top-decides n [] = record { to = λ t. omega arith; from = λ h. tt }
top-decides n (x ∷ l) = reworded (λ p. let a = p.0 in let b = p.1 in omega arith) (λ h. (omega arith, omega arith)) (and-decides (leb-decides (variable x) n) (top-decides n l))

-- where no variable is above n, it is not
pub top_within : (n : ℕ) (l : List ℤ) → ((x : ℤ) → x ∈ l → variable x ≤ n) → top l ≤ n
top_within n l f = (top-decides n l).to ((all-decides (λ x. leb-decides (variable x) n) l).from f)
