-- Laws on the bytes that a text starts with.
-- Assumes nothing.
use mathlib.Core.Path.{◌≡◌, refl, sym, ◌∙◌, ap₂}
use mathlib.Core.Bool.{Bool, true, false, ◌&&◌, true≢false}
use mathlib.Core.List.{List, [], ◌∷◌}
use Prim.Native.Nat.{ℕ, ◌≤◌}
use native.Mathlib.Omega.{arith}
use borrow.Author.Tests.{eq-eqb, ne_eqb, eqb-true}
use lib.Dec.{eqb}
use lib.ListN.{length, take}
use lib.Pointwise.{pointwise}
use Rattle.text.specs.Strings.{starts_with}
use Rattle.words.proofs.Lists.{and_right}

eqb_swap : (a b : ℕ) → eqb a b ≡ eqb b a
eqb_swap a b = by (eqb a b) refl
  where
    by : (t : Bool) → eqb a b ≡ t → t ≡ eqb b a
    by true e = sym (eq-eqb b a (sym (eqb-true a b e)))
    by false e = sym (ne_eqb b a (λ h. true≢false (sym (eq-eqb a b (sym h)) ∙ e)))

-- `starts_with` of two slices of bytes
pub starts_with-is : (front text : List ℕ) → pointwise eqb front (take (length front) text) ≡ starts_with front text
starts_with-is [] text = refl
starts_with-is (x ∷ front) [] = refl
starts_with-is (x ∷ front) (b ∷ text) = ap₂ (λ (s t : Bool). s && t) (eqb_swap x b) (starts_with-is front text)

-- a text is as long as what it starts with
pub front_long : (front text : List ℕ) → starts_with front text ≡ true → length front ≤ length text
front_long [] text e = omega arith
front_long (x ∷ front) [] e = absurd (true≢false (sym e))
front_long (x ∷ front) (b ∷ text) e = let h = front_long front text (and_right (eqb b x) (starts_with front text) e) in omega arith
