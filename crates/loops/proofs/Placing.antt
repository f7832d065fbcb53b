-- The numbers of a line by their places: the array of places, filled number by number.
-- Assumes nothing.
use mathlib.Core.Path.{◌≡◌, refl, sym, ◌∙◌, ap}
use mathlib.Core.Logic.{◌⊎◌, inl, inr}
use mathlib.Core.Bool.{Bool, true, false, cond}
use mathlib.Core.List.{List, [], ◌∷◌}
use Prim.Native.Nat.{ℕ, zero, suc, ◌+◌, ◌≤◌, ◌<◌}
use native.Mathlib.Omega.{arith}
use native.Mathlib.Numerals.{add-one}
use lib.IntN.{ℤ, pos}
use lib.Signed.{lt_z}
use lib.Dec.{ltb}
use lib.ListN.{length, get_or, take, drop, set, replicate, length-set, length-replicate, get_or-eq_default}
use lib.Seq.{drop-cons, get_or-set_same, get_or-set_other}
use borrow.Author.Tests.{ltb-true, ltb-false}
use Rattle.words.specs.Limits.{entries, most_numbers}
use Rattle.words.specs.Literals.{variable}
use Rattle.words.proofs.Laws.{padded}
use Rattle.words.proofs.Lists.{passed}
use Rattle.words.proofs.Places.{equal?, in-at, variables-differ}
use Rattle.derivation.proofs.Questions.{positive-is}
use Rattle.loops.specs.Edges.{Members, place_by, Placed, Low}

-- the places of the first k numbers
pub record Placing (m : List ℕ) (U : List ℤ) (k : ℕ) : Type 0 where
  pub long : length m ≡ entries
  pub to : (x : ℤ) (i : ℕ) → place_by m x ≡ suc i → (i < k) × (get_or U i (pos 0) ≡ x)
  pub from : (i : ℕ) → i < k → place_by m (get_or U i (pos 0)) ≡ suc i

pub placing-none : (U : List ℤ) → Placing (replicate entries 0) U 0
placing-none U = record {
  long = length-replicate {A = ℕ} entries 0;
  to = λ x i e. none (lt_z (pos 0) x) (padded 0 [] entries (variable x)) e;
  from = λ i h. absurd (omega arith);
}
  where
    none : {A : Type 0} {i n : ℕ} (b : Bool) → n ≡ 0 → cond b n 0 ≡ suc i → A
    none true z e = absurd (omega (arith, z, e))
    none false z e = absurd (omega (arith, e))

module _ (U : List ℤ) (members : Members U) (m : List ℕ) (k : ℕ) (h : k < length U) (p : Placing m U k) where
  abbrev here : ℤ
  here = get_or U k (pos 0)

  abbrev after : List ℕ
  after = set m (variable here) (k + 1)

  at : (i : ℕ) → i < length U → lt_z (pos 0) (get_or U i (pos 0)) ≡ true
  at i l = members.positive (get_or U i (pos 0)) (in-at (pos 0) U i l)

  same-entry : get_or after (variable here) 0 ≡ k + 1
  same-entry = get_or-set_same m (variable here) (k + 1) 0 (omega (arith, members.high here (in-at (pos 0) U k h), p.long))

  other-entry : (v : ℕ) → ¬ (v ≡ variable here) → get_or after v 0 ≡ get_or m v 0
  other-entry v n = get_or-set_other m (variable here) v (k + 1) 0 n

  one_word : (x : ℤ) → lt_z (pos 0) x ≡ true → variable x ≡ variable here → here ≡ x
  one_word x e v = positive-is here ((passed _).from (at k h)) ∙ ap pos (sym v) ∙ sym (positive-is x ((passed _).from e))

  pub placing-on : Placing after U (k + 1)
  placing-on = record {
    long = length-set m (variable here) (k + 1) ∙ p.long;
    to = λ x i e. go x i (lt_z (pos 0) x) refl e;
    from = λ i l. back i l (equal? i k);
  }
    where
      by : (x : ℤ) (i : ℕ) → lt_z (pos 0) x ≡ true → (variable x ≡ variable here) ⊎ (¬ (variable x ≡ variable here))
          → get_or after (variable x) 0 ≡ suc i → (i < k + 1) × (get_or U i (pos 0) ≡ x)
      by x i t (inl v) e =
          let q : k ≡ i = omega (arith, e, same-entry, ap (λ (w : ℕ). get_or after w 0) v) in
          (omega arith, rw (← q) (one_word x t v))
      by x i t (inr n) e =
          let r = p.to x i (rw t (sym (other-entry (variable x) n) ∙ e)) in
          (omega (arith, r.0), r.1)

      go : (x : ℤ) (i : ℕ) (b : Bool) → lt_z (pos 0) x ≡ b → cond b (get_or after (variable x) 0) 0 ≡ suc i
          → (i < k + 1) × (get_or U i (pos 0) ≡ x)
      go x i true t e = by x i t (equal? (variable x) (variable here)) e
      go x i false t e = absurd (omega (arith, e))

      back : (i : ℕ) → i < k + 1 → (i ≡ k) ⊎ (¬ (i ≡ k)) → place_by after (get_or U i (pos 0)) ≡ suc i
      back i l (inl e) = rw (e, at k h, same-entry) (add-one k)
      back i l (inr n) =
          let j : i < k = omega (arith, n) in
          let o = variables-differ U members.once i k (omega arith) h n in
          let q = p.from i j in
          rw (at i (omega arith), other-entry (variable (get_or U i (pos 0))) o) (rw (at i (omega arith)) at q)

pub placed : (U : List ℤ) (m : List ℕ) (k : ℕ) → k ≤ length U → length U ≤ k → Placing m U k → Placed m U
placed U m k g h p = record {
  to = λ x i e. let r = p.to x i e in (omega (arith, r.0), r.1);
  from = λ i l. p.from i (omega arith);
}

pub placed-low : {U : List ℤ} {m : List ℕ} → length U ≤ most_numbers → Placed m U → Low m
placed-low {U} {m} h p x = go (place_by m x) refl
  where
    go : (n : ℕ) → place_by m x ≡ n → n ≤ most_numbers
    go zero e = omega arith
    go (suc i) e = omega (arith, (p.to x i e).0)

-- an atom that has a place: its entry is there, and it is that place
module _ (m : List ℕ) (v : ℕ) {i : ℕ} (e : place_by m (pos v) ≡ suc i) where
  entry : place_by m (pos v) ≡ get_or m v 0
  entry = by (lt_z (pos 0) (pos v)) e
    where
      by : (t : Bool) → cond t (get_or m v 0) 0 ≡ suc i → cond t (get_or m v 0) 0 ≡ get_or m v 0
      by true q = refl
      by false q = absurd (omega (arith, q))

  pub place-there : v < length m
  place-there = by (ltb v (length m)) refl
    where
      by : (t : Bool) → ltb v (length m) ≡ t → v < length m
      by true q = ltb-true v (length m) q
      by false q = absurd (omega (arith, e, entry, get_or-eq_default m 0 (ltb-false v (length m) q)))

  pub place-part : (n : ℕ) → n ≡ 1 → take n (drop v m) ≡ place_by m (pos v) ∷ []
  place-part n q = rw (q, entry, drop-cons m v 0 place-there) refl
