-- Bytes that are all 0: what `is_blank` and `extent` share.
-- Assumes nothing.
use mathlib.Core.Path.{◌≡◌, refl, sym, ◌∙◌, ap}
use mathlib.Core.Logic.{inl, inr}
use mathlib.Core.Bool.{Bool, true, false}
use mathlib.Core.List.{List}
use Prim.Native.Nat.{ℕ, ◌+◌, ◌-◌, ◌<◌, ◌≤◌}
use native.Mathlib.Omega.{arith}
use borrow.Author.Tests.{ltb-true, ltb-false}
use lib.Dec.{ltb}
use lib.ListN.{length, take, drop, get_or, get_or-eq_default}
use lib.Seq.{get_or-take, get_or-drop}
use Rattle.words.proofs.Places.{equal?}

pub blank-past : (m : List ℕ) (v : ℕ) → length m ≤ v → get_or m v 0 ≡ 0
blank-past m v h = get_or-eq_default m 0 {n = v} h

-- one byte more
pub blank-on : (m : List ℕ) (i : ℕ) → ((v : ℕ) → v < i → get_or m v 0 ≡ 0) → get_or m i 0 ≡ 0 → (v : ℕ) → v < i + 1 → get_or m v 0 ≡ 0
blank-on m i f e v h = elim (equal? v i) [ inl p ↦ rw p e | inr k ↦ f v (omega (arith, k)) ]

-- every byte, and what would stand past the end
pub blank-from : (m : List ℕ) (i : ℕ) → length m ≤ i → ((v : ℕ) → v < i → get_or m v 0 ≡ 0) → (v : ℕ) → get_or m v 0 ≡ 0
blank-from m i h f v = by (ltb v i) refl
  where
    by : (t : Bool) → ltb v i ≡ t → get_or m v 0 ≡ 0
    by true e = f v (ltb-true v i e)
    by false e = blank-past m v (omega (arith, ltb-false v i e))

-- a part that is blank, before what is
pub blank_part : (m : List ℕ) (from end : ℕ) → ((v : ℕ) → get_or (take (end - from) (drop from m)) v 0 ≡ 0)
    → ((v : ℕ) → end ≤ v → get_or m v 0 ≡ 0) → (v : ℕ) → from ≤ v → get_or m v 0 ≡ 0
blank_part m from end f g v h = by (ltb v end) refl
  where
    by : (t : Bool) → ltb v end ≡ t → get_or m v 0 ≡ 0
    by true e =
        let k = ltb-true v end e in
        let p : from + (v - from) ≡ v = omega arith in
        sym (get_or-take (end - from) (drop from m) (v - from) 0 (omega arith) ∙ get_or-drop from m (v - from) 0 ∙ ap (λ (n : ℕ). get_or m n 0) p)
        ∙ f (v - from)
    by false e = g v (ltb-false v end e)
