-- Laws on the tests of a rule's kind and heads, and on its atoms.
-- Assumes nothing.
use mathlib.Core.Path.{◌≡◌, refl, sym}
use mathlib.Core.List.Memᴰ
use mathlib.Core.List.{List, [], ◌∷◌, ◌++◌, nil≢cons}
use Prim.Native.Nat.{ℕ, ◌≤◌, max}
use native.Mathlib.Omega.{arith}
use lib.Dec.{eqb, eqb-suc-zero}
use lib.IntN.{ℤ}
use lib.ListN.{length}
use Rattle.words.specs.Lists.{◌∈◌}
use Rattle.words.proofs.Lists.{Decides}
use Rattle.aspif.specs.Rules.{is_normal, is_empty, greatest}
use Rattle.aspif.specs.declared.Kind.{Kind}
use Rattle.aspif.specs.declared.Kind.TheVariants.{Normal, Choice}

pub normal-decides : (k : Kind) → Decides (is_normal k) (k ≡ Normal)
normal-decides Normal = record { to = λ t. refl; from = λ p. tt }
normal-decides Choice = record { to = λ t. absurd t; from = λ p. absurd (let z : ◌≡◌ {A = ℕ} 0 1 = cc in omega arith) }

pub empty-decides : (g : List ℤ) → Decides (is_empty g) (g ≡ [])
empty-decides [] = record { to = λ t. refl; from = λ p. tt }
empty-decides (x ∷ g) = record { to = λ t. absurd t; from = λ p. nil≢cons (sym p) }

-- no heads
pub empty-length : (l : List ℤ) → eqb (length l) 0 ≡ is_empty l
empty-length [] = refl
empty-length (x ∷ l) = eqb-suc-zero (length l)

-- no element has a greater number, and so a rule of a program names no atom above its largest
pub in-greatest : {A : Type 0} (f : A → ℕ) {x : A} {l : List A} → x ∈ l → f x ≤ greatest f l
in-greatest f (Memᴰ.head {xs = l} p) = rw p (omega arith)
in-greatest f (Memᴰ.tail {xs = l} i) = let h = in-greatest f i in omega arith

-- where no element has a number above n, the greatest is not
pub greatest-within : {A : Type 0} (f : A → ℕ) (n : ℕ) (l : List A) → ((x : A) → x ∈ l → f x ≤ n) → greatest f l ≤ n
greatest-within f n [] h = omega arith
greatest-within f n (x ∷ l) h =
    let a = h x (Memᴰ.head refl) in
    let b = greatest-within f n l (λ y i. h y (Memᴰ.tail i)) in
    omega arith

-- one element more
pub greatest-more : {A : Type 0} (f : A → ℕ) (l : List A) (x : A) → greatest f (l ++ (x ∷ [])) ≡ max (greatest f l) (f x)
greatest-more f [] x = omega arith
greatest-more f (y ∷ l) x = let h = greatest-more f l x in omega arith
