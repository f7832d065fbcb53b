-- The table of byte classes is right at every entry: one test, computed over all 256 together, and the rule that it gives for each.
-- Assumes nothing.
use mathlib.Core.Path.{◌≡◌, refl, ap, subst, sym, ◌∙◌}
use mathlib.Core.Bool.{Bool, true, ◌&&◌}
use mathlib.Core.List.{List, [], ◌∷◌}
use Prim.Native.Nat.{ℕ, zero, suc, ◌+◌, ◌<◌}
use native.Mathlib.Nat.{add-zero, zero-add, add-suc, suc-add, le_of_suc-le-suc, not-suc-le-zero}
use borrow.Author.Tests.{eqb-true}
use lib.Dec.{eqb, leb}
use lib.ListN.{length, get_or}
use Rattle.words.proofs.Lists.{and_left, and_right}
use Rattle.text.specs.Bytes.{class_of}
use Rattle.text.specs.Classes.{number_of, class_at, byte_classes}
use Rattle.text.specs.declared.Letter.TheVariants.{Addition, Body, Completion, Deletion, Extension, Loop, Support}
use Rattle.text.specs.declared.Class.{Class}
use Rattle.text.specs.declared.Class.TheVariants.{Newline, Space, Minus, Digit, Step, Other}

-- the test f passes at each entry of the list and its place, counted from i
abbrev every : (ℕ → ℕ → Bool) → ℕ → List ℕ → Bool
every f i [] = true
every f i (x ∷ xs) = f i x && every f (suc i) xs

from : (f : ℕ → ℕ → Bool) (xs : List ℕ) (i : ℕ) → every f i xs ≡ true → (k : ℕ) → k < length xs → f (i + k) (get_or xs k 0) ≡ true
from f [] i t k h = absurd (not-suc-le-zero h)
from f (x ∷ xs) i t zero h = subst (λ (m : ℕ). f m x ≡ true) (sym (add-zero i)) (and_left (f i x) (every f (suc i) xs) t)
from f (x ∷ xs) i t (suc k) h =
    subst (λ (m : ℕ). f m (get_or xs k 0) ≡ true) (suc-add i k ∙ sym (add-suc i k))
    (from f xs (suc i) (and_right (f i x) (every f (suc i) xs) t) k (le_of_suc-le-suc h))

-- a digit is below 10
abbrev small : Class → Bool
small (Digit d) = leb d 9
small Newline = true
small Space = true
small Minus = true
small (Step x) = true
small Other = true

-- the test: x is the number of the class of byte k, and a digit is below 10
right : ℕ → ℕ → Bool
right k x = eqb x (number_of (class_of k)) && small (class_of k)

-- the number of a class stands for it
known : (c : Class) → small c ≡ true → class_at (number_of c) ≡ c
known (Digit d) t = rw t
known Newline t = refl
known Space t = refl
known Minus t = refl
known (Step Addition) t = refl
known (Step Body) t = refl
known (Step Completion) t = refl
known (Step Deletion) t = refl
known (Step Extension) t = refl
known (Step Loop) t = refl
known (Step Support) t = refl
known Other t = refl

passed : every right 0 byte_classes ≡ true
unfolding byte_classes right
passed = refl

-- for every byte k, the entry at k stands for the class of k
pub at : (k : ℕ) → k < 256 → class_at (get_or byte_classes k 0) ≡ class_of k
unfolding byte_classes right
at k h =
    let x = get_or byte_classes k 0 in
    let n = number_of (class_of k) in
    let t : right k x ≡ true = subst (λ (m : ℕ). right m x ≡ true) (zero-add k) (from right byte_classes 0 passed k h) in
    ap class_at (eqb-true x n (and_left (eqb x n) (small (class_of k)) t)) ∙ known (class_of k) (and_right (eqb x n) (small (class_of k)) t)
