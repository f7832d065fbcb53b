-- Elements of a list by their places, and literals of which no variable stands twice.
-- Assumes nothing.
use mathlib.Core.Path.{◌≡◌, refl, sym, ap, ◌∙◌}
use mathlib.Core.Logic.{◌⊎◌, inl, inr}
use mathlib.Core.Bool.{true}
use mathlib.Core.List.Memᴰ
use mathlib.Core.List.{List, [], ◌∷◌, ◌++◌}
use Prim.Native.Nat.{ℕ, zero, suc, ◌<◌}
use native.Mathlib.Omega.{arith}
use lib.Dec.{eqb}
use lib.IntN.{ℤ, pos}
use lib.ListN.{length, get_or}
use Rattle.words.specs.Lists.{◌∈◌}
use Rattle.words.specs.Literals.{variable, same, mentions, distinct}
use Rattle.words.proofs.Lists.{Decides, passed, if-true, is_true, answered, and-decides, not-decides, any-decides, eqb-decides}
use Rattle.words.proofs.Literals.{same-decides}

-- two numbers, or two words, are equal or not
pub equal? : (a b : ℕ) → (a ≡ b) ⊎ (¬ (a ≡ b))
equal? a b = elim (answered (eqb a b)) [ inl t ↦ inl ((eqb-decides a b).to t) | inr t ↦ inr ((not-decides (eqb-decides a b)).to t) ]

pub same? : (x y : ℤ) → (x ≡ y) ⊎ (¬ (x ≡ y))
same? x y = elim (answered (same x y)) [ inl t ↦ inl ((same-decides x y).to t) | inr t ↦ inr ((not-decides (same-decides x y)).to t) ]

module _ {A : Type 0} (d : A) where
  -- what stands at a place is in the list
  pub in-at : (l : List A) (i : ℕ) → i < length l → get_or l i d ∈ l
  in-at [] i h = absurd (omega arith)
  in-at (x ∷ l) zero h = Memᴰ.head refl
  in-at (x ∷ l) (suc i) h = Memᴰ.tail (in-at l i (omega arith))

  -- what is in the list stands at a place
  pub place-of : {x : A} {l : List A} → x ∈ l → (i : ℕ) × (i < length l) × (get_or l i d ≡ x)
  place-of (Memᴰ.head p) = (0, omega arith, sym p)
  place-of (Memᴰ.tail m) = let r = place-of m in (suc r.0, omega (arith, r.1), r.2)

-- some literal has the variable
pub mentions-decides : (v : ℕ) (l : List ℤ) → Decides (mentions v l) ((x : ℤ) × (x ∈ l) × (v ≡ variable x))
mentions-decides v l = any-decides (λ x. eqb-decides v (variable x)) l

-- no variable stands twice: the first one stands in no other literal, and the others are so
pub once-decides : (x : ℤ) (l : List ℤ) → Decides (distinct (x ∷ l)) ((¬ ((y : ℤ) × (y ∈ l) × (variable x ≡ variable y))) × (distinct l ≡ true))
once-decides x l = and-decides (not-decides (mentions-decides (variable x) l)) (passed (distinct l))

-- nor with one literal more at the end, whose variable stands in none of them
pub distinct-last : (l : List ℤ) (x : ℤ) → distinct l ≡ true → ((y : ℤ) → y ∈ l → ¬ (variable y ≡ variable x)) → distinct (l ++ (x ∷ [])) ≡ true
distinct-last [] x o f = refl
distinct-last (z ∷ l) x o f =
    let d = if-true (once-decides z l) o in
    is_true (once-decides z (l ++ (x ∷ []))) (apart d.0, distinct-last l x d.1 (λ y i. f y (Memᴰ.tail i)))
  where
    apart : ¬ ((y : ℤ) × (y ∈ l) × (variable z ≡ variable y)) → ¬ ((y : ℤ) × (y ∈ l ++ (x ∷ [])) × (variable z ≡ variable y))
    apart n q = elim (Memᴰ.append_cases l q.1) [
      | inl i ↦ n (q.0, i, q.2)
      | inr i ↦ f z (Memᴰ.head refl) (q.2 ∙ ap variable (Memᴰ.eq_of_singleton i))
    ]

first : (x : ℤ) (l : List ℤ) → distinct (x ∷ l) ≡ true → (j : ℕ) → j < length l → ¬ (variable x ≡ variable (get_or l j (pos 0)))
first x l o j h e = ((once-decides x l).to ((passed _).from o)).0 (get_or l j (pos 0), in-at (pos 0) l j h, e)

-- no variable stands twice: at two places stand two variables
pub variables-differ : (l : List ℤ) → distinct l ≡ true → (i j : ℕ) → i < length l → j < length l → ¬ (i ≡ j)
    → ¬ (variable (get_or l i (pos 0)) ≡ variable (get_or l j (pos 0)))
variables-differ [] o i j h k n e = omega arith
variables-differ (x ∷ l) o zero zero h k n e = n refl
variables-differ (x ∷ l) o zero (suc j) h k n e = first x l o j (omega arith) e
variables-differ (x ∷ l) o (suc i) zero h k n e = first x l o i (omega arith) (sym e)
variables-differ (x ∷ l) o (suc i) (suc j) h k n e =
    variables-differ l ((once-decides x l).to ((passed _).from o)).1 i j (omega arith) (omega arith) (λ p. n (ap suc p)) e
