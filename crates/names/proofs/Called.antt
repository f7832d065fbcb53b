-- Bodies kept by name: what a record says, what a new one changes, and the start.
-- Assumes nothing.
use mathlib.Core.Path.{◌≡◌, refl, sym, ◌∙◌, ap, subst}
use mathlib.Core.Logic.{◌⊎◌, inl, inr}
use mathlib.Core.Bool.{Bool, true, false, cond, ◌&&◌, true≢false}
use mathlib.Core.List.{List, [], ◌∷◌, ◌++◌, append_assoc}
use Prim.Native.Nat.{ℕ, zero, suc, ◌+◌, ◌-◌, ◌*◌, ◌<◌, ◌≤◌}
use native.Mathlib.Numerals.{add-one}
use native.Mathlib.Omega.{arith}
use borrow.Author.Tests.{eqb-true, eqb-false, eq-eqb, ne_eqb, ltb-true, ltb-false}
use lib.Dec.{eqb, ltb}
use lib.IntN.{ℤ, pos}
use lib.ListN.{length, take, drop, get_or, set, replicate, length-set, length-replicate, get_or-replicate}
use lib.Seq.{drop-cons, drop-set-lt, drop-set-add, take-set-le, sets, sets-eq, length-sets, drop_at, length-take-le, take-append_seam, get_or-set_same, get_or-set_other, get_or-take}
use Rattle.words.specs.Limits.{largest, entries}
use Rattle.words.specs.Literals.{variable, same, same_list}
use Rattle.words.proofs.Laws.{same-list-short, sets-before, sets-after}
use Rattle.words.proofs.Lists.{if-true, is_true, by-test}
use Rattle.words.proofs.Literals.{same-decides, same_list-decides}
use Rattle.words.proofs.Parts.{mid-front}
use Rattle.words.proofs.Places.{equal?}
use Rattle.weights.specs.Weights.{most_weighted}
use Rattle.names.specs.ByName.{width, body_words, place_of, Taken, stands_at, Called, PutName}

-- a record's first word is the count of literals and one more, and the literals stand after it
module _ (m L : List ℤ) (v : ℕ) (h : width * v < length m) where
  pub stands_parts : stands_at m v L
      ≡ (same (get_or m (width * v) (pos 0)) (pos (length L + 1)) && same_list (take (length L) (drop (width * v + 1) m)) L)
  unfolding stands_at
  stands_parts = simp add-one (rw (drop-cons m (width * v) (pos 0) h))

-- The name of a body, by the records

module _ {m : List ℤ} {called : List ℤ → ℕ} (C : Called m called) (L : List ℤ) (short : length L ≤ most_weighted) where
  -- a record that holds it
  pub called-by : (v : ℕ) → 1 ≤ v → v ≤ largest → stands_at m v L ≡ true → v ≡ called L
  called-by v p h e = sym (eqb-true (called L) v (sym (C.stands v p h L short) ∙ e))

  -- no record that holds it
  pub called-none : ((v : ℕ) → 1 ≤ v → v ≤ largest → stands_at m v L ≡ false) → 0 ≡ called L
  called-none f = by (called L) refl
    where
      by : (n : ℕ) → n ≡ called L → 0 ≡ n
      by zero e = refl
      by (suc n) e =
          let h : suc n ≤ largest = rw e (C.high L) in
          absurd (true≢false (sym (eq-eqb (called L) (suc n) (sym e)) ∙ sym (C.stands (suc n) (omega arith) h L short) ∙ f (suc n) (omega arith) h))

  -- its place of the index is free
  pub called-free : get_or m (width * entries + place_of L) (pos 0) ≡ pos 0 → 0 ≡ called L
  called-free e = by (called L) refl
    where
      by : (n : ℕ) → n ≡ called L → 0 ≡ n
      by zero q = refl
      by (suc n) q = absurd (C.taken L short (omega (arith, q)) e)

-- What the record of v holds

module _ (m L : List ℤ) (v : ℕ) (h : width * v < length m) where
  -- as many literals as its first word says, and one more
  pub holds-body : (B : List ℤ) → get_or m (width * v) (pos 0) ≡ pos (length B + 1) → take (length B) (drop (width * v + 1) m) ≡ B
      → stands_at m v L ≡ same_list B L
  holds-body B e q = stands_parts m L v h ∙ rw e (by (equal? (length B) (length L)))
    where
      by : (length B ≡ length L) ⊎ (¬ (length B ≡ length L))
          → (eqb (length B + 1) (length L + 1) && same_list (take (length L) (drop (width * v + 1) m)) L) ≡ same_list B L
      by (inl n) = rw (eq-eqb (length B + 1) (length L + 1) (omega arith), ← n, q)
      by (inr n) = rw (ne_eqb (length B + 1) (length L + 1) (λ k. n (omega arith)), same-list-short B L n)

  -- no body: its first word is no count
  pub holds-none : ¬ (get_or m (width * v) (pos 0) ≡ pos (length L + 1)) → stands_at m v L ≡ false
  holds-none n = stands_parts m L v h ∙ rw (by (same (get_or m (width * v) (pos 0)) (pos (length L + 1))) refl)
    where
      by : (t : Bool) → same (get_or m (width * v) (pos 0)) (pos (length L + 1)) ≡ t → t ≡ false
      by true e = absurd (n (if-true (same-decides _ _) e))
      by false e = refl

-- Parts that stores leave alone, and the part that they write

module _ {A : Type 0} where
  part-set : (l : List A) (i k n : ℕ) (a : A) → (i < k) ⊎ (k + n ≤ i) → take n (drop k (set l i a)) ≡ take n (drop k l)
  part-set l i k n a (inl h) = rw (drop-set-lt k l i a h)
  part-set l i k n a (inr h) =
      let e : i ≡ k + (i - k) = omega arith in
      rw (e, drop-set-add k l (i - k) a) (take-set-le n (drop k l) (i - k) a (omega arith))

  part-sets : (vs l : List A) (i k n : ℕ) → (i + length vs ≤ k) ⊎ (k + n ≤ i) → take n (drop k (sets l i vs)) ≡ take n (drop k l)
  part-sets [] l i k n h = refl
  part-sets (v ∷ vs) l i k n (inl h) = part-sets vs (set l i v) (suc i) k n (inl (omega arith)) ∙ part-set l i k n v (inl (omega arith))
  part-sets (v ∷ vs) l i k n (inr h) = part-sets vs (set l i v) (suc i) k n (inr (omega arith)) ∙ part-set l i k n v (inr h)

  part_in : (vs l : List A) (i : ℕ) → i + length vs ≤ length l → take (length vs) (drop i (sets l i vs)) ≡ vs
  part_in vs l i h =
      let rest = drop (i + length vs) l in
      let front = drop_at (take i l) (vs ++ rest) i (length-take-le i l (omega arith)) in
      rw (sets-eq vs l i h, append_assoc (take i l) vs rest, front) (take-append_seam vs rest)

-- A new record

-- the body stands in the record of `name`, and the other records are as they were
pub record Written (m after : List ℤ) (name : ℕ) (body : List ℤ) : Type 0 where
  pub long : length after ≡ length m
  pub first : get_or after (width * name) (pos 0) ≡ pos (length body + 1)
  pub literals : take (length body) (drop (width * name + 1) after) ≡ body
  pub others : (v n : ℕ) → n ≤ width → v ≤ largest → ¬ (v ≡ name) → take n (drop (width * v) after) ≡ take n (drop (width * v) m)

module _ (m body : List ℤ) (name : ℕ) (size : length m ≡ body_words) (high : name ≤ largest) (short : length body ≤ most_weighted) where
  -- the first word, and the literals after it
  pub written : Written m (sets (set m (width * name) (pos (length body + 1))) (width * name + 1) body) name body
  written = record {
    long = length-sets l (at + 1) body ∙ length-set m at x;
    first = sets-before (pos 0) body l (at + 1) at (omega arith) ∙ get_or-set_same m at x (pos 0) (omega arith);
    literals = part_in body l (at + 1) (rw (length-set m at x) (omega arith));
    others = λ v n h k d. by v n h d (ltb name v) refl;
  }
    where
      at : ℕ
      at = width * name

      x : ℤ
      x = pos (length body + 1)

      l : List ℤ
      l = set m at x

      by : (v n : ℕ) → n ≤ width → ¬ (v ≡ name) → (t : Bool) → ltb name v ≡ t
          → take n (drop (width * v) (sets l (at + 1) body)) ≡ take n (drop (width * v) m)
      by v n h d true e =
          let k = ltb-true name v e in
          part-sets body l (at + 1) (width * v) n (inl (omega arith)) ∙ part-set m at (width * v) n x (inl (omega arith))
      by v n h d false e =
          let k : v < name = omega (arith, ltb-false name v e, d) in
          part-sets body l (at + 1) (width * v) n (inr (omega arith)) ∙ part-set m at (width * v) n x (inr (omega arith))

  -- the index stays
  pub written-index : (k : ℕ) → get_or (sets (set m (width * name) (pos (length body + 1))) (width * name + 1) body) (width * entries + k) (pos 0)
      ≡ get_or m (width * entries + k) (pos 0)
  written-index k =
      sets-after (pos 0) body (set m (width * name) (pos (length body + 1))) (width * name + 1) (width * entries + k) (omega arith)
      ∙ get_or-set_other m (width * name) (width * entries + k) (pos (length body + 1)) (pos 0) (λ e. omega arith)

-- A name put at a free place of the index, from the first on

-- a place that is not free
pub not_free : (m : List ℤ) (k : ℕ) → same (get_or m (width * entries + k) (pos 0)) (pos 0) ≡ false → Taken m k
not_free m k t e = true≢false (sym (is_true (same-decides _ _) e) ∙ t)

module _ (m : List ℤ) (place name : ℕ) (size : length m ≡ body_words) (within : place < entries) (above : 1 ≤ name) where
  abbrev after : List ℤ
  after = set m (width * entries + place) (pos name)

  put-here : Taken after place
  put-here e = omega (arith, ap variable (sym (get_or-set_same m (width * entries + place) (pos name) (pos 0) (omega arith)) ∙ e))

  put-still : (k : ℕ) → Taken m k → Taken after k
  put-still k t = elim (equal? k place) [
    | inl q ↦ subst (Taken after) (sym q) put-here
    | inr n ↦ λ e. t (sym (get_or-set_other m (width * entries + place) (width * entries + k) (pos name) (pos 0) (λ q. n (omega arith))) ∙ e)
  ]

  pub put-name : (first : ℕ) → (place ≡ first) ⊎ Taken m first → PutName first m after
  put-name first s = record {
    records = take-set-le (width * entries) m (width * entries + place) (pos name) (omega arith);
    here = elim s [ inl q ↦ subst (Taken after) q put-here | inr t ↦ put-still first t ];
    still = put-still;
  }

-- stores after the records
pub written_on : {m after more body : List ℤ} {name : ℕ} → Written m after name body → length more ≡ length after
    → take (width * entries) more ≡ take (width * entries) after → name ≤ largest → length body ≤ most_weighted → Written m more name body
written_on {m} {after} {more} {body} {name} W size e high short = record {
  long = size ∙ W.long;
  first = word (width * name) (omega arith) ∙ W.first;
  literals = part (width * name + 1) (length body) (omega arith) ∙ W.literals;
  others = λ v n s k d. part (width * v) n (omega arith) ∙ W.others v n s k d;
}
  where
    part : (k n : ℕ) → k + n ≤ width * entries → take n (drop k more) ≡ take n (drop k after)
    part k n h = sym (mid-front k n (width * entries) more h) ∙ ap (λ (l : List ℤ). take n (drop k l)) e ∙ mid-front k n (width * entries) after h

    word : (k : ℕ) → k < width * entries → get_or more k (pos 0) ≡ get_or after k (pos 0)
    word k h =
        sym (get_or-take (width * entries) more k (pos 0) h) ∙ ap (λ (l : List ℤ). get_or l k (pos 0)) e ∙ get_or-take (width * entries) after k (pos 0) h

-- the body has the name
module _ {m after body : List ℤ} {name : ℕ} (W : Written m after name body) (above : 1 ≤ name) (high : name ≤ largest)
    {called : List ℤ → ℕ} (C : Called m called) (unnamed : called body ≡ 0) (fresh : (L : List ℤ) → ¬ (called L ≡ name)) where
  -- a test of the name that a body now has
  renamed-test : (v : ℕ) → 1 ≤ v → (L : List ℤ) → (t : Bool) → same_list body L ≡ t → (b : Bool) → eqb v name ≡ b
      → eqb (cond t name (called L)) v ≡ cond b t (eqb (called L) v)
  renamed-test v p L true e true k = eq-eqb name v (sym (eqb-true v name k))
  renamed-test v p L true e false k =
      rw (ne_eqb name v (λ q. eqb-false v name k (sym q)), ← if-true (same_list-decides body L) e, unnamed, ne_eqb 0 v (λ q. omega arith)) refl
  renamed-test v p L false e true k = rw (eqb-true v name k) (ne_eqb (called L) name (fresh L))
  renamed-test v p L false e false k = refl

  -- the record of v
  renamed-stands : (v : ℕ) → 1 ≤ v → v ≤ largest → (L : List ℤ) → length L ≤ most_weighted → (b : Bool) → eqb v name ≡ b
      → stands_at after v L ≡ cond b (same_list body L) (eqb (called L) v)
  unfolding stands_at
  renamed-stands v p h L s true k = rw (eqb-true v name k) (holds-body after L name (omega (arith, W.long, C.long)) body W.first W.literals)
  renamed-stands v p h L s false k = rw (W.others v (suc (length L)) (omega arith) h (eqb-false v name k)) (C.stands v p h L s)

  renamed-taken : Taken after (place_of body) → ((k : ℕ) → Taken m k → Taken after k) → (L : List ℤ) → length L ≤ most_weighted
      → (t : Bool) → same_list body L ≡ t → 1 ≤ cond t name (called L) → Taken after (place_of L)
  renamed-taken here still L s true e h = subst (λ l. Taken after (place_of l)) (if-true (same_list-decides body L) e) here
  renamed-taken here still L s false e h = still (place_of L) (C.taken L s h)

  pub entered : Taken after (place_of body) → ((k : ℕ) → Taken m k → Taken after k) → Called after (λ L. cond (same_list body L) name (called L))
  entered here still = record {
    long = W.long ∙ C.long;
    high = λ L. by-test (λ n. n ≤ largest) (same_list body L) (λ e. high) (λ e. C.high L);
    stands = λ v p h L s. renamed-stands v p h L s (eqb v name) refl ∙ sym (renamed-test v p L (same_list body L) refl (eqb v name) refl);
    taken = λ L s h. renamed-taken here still L s (same_list body L) refl h;
  }

-- A longer body, of which the records do not speak
pub entered-longer : {m : List ℤ} {called : List ℤ → ℕ} (B : List ℤ) (n : ℕ) → Called m called → most_weighted < length B → n ≤ largest
    → Called m (λ L. cond (same_list B L) n (called L))
entered-longer B n C h k = record {
  long = C.long;
  high = λ L. by-test (λ i. i ≤ largest) (same_list B L) (λ e. k) (λ e. C.high L);
  stands = λ v p q L s. C.stands v p q L s ∙ rw (same-list-short B L (λ e. omega arith));
  taken = λ L s q. C.taken L s (rw (same-list-short B L (λ e. omega arith)) at q);
}

-- At the start no body has a name

none-stands : (n : ℕ) → n ≡ body_words → Called (replicate n (pos 0)) (λ L. 0)
none-stands n e = record {
  long = length-replicate n (pos 0) ∙ e;
  high = λ L. omega arith;
  stands = λ v p h L s.
      let first = get_or-replicate n (width * v) (pos 0) (pos 0) (omega arith) in
      holds-none (replicate n (pos 0)) L v (rw (length-replicate n (pos 0)) (omega arith)) (λ q. omega (arith, ap variable (sym first ∙ q)))
      ∙ sym (ne_eqb 0 v (λ q. omega arith));
  taken = λ L s h. absurd (omega (arith, h));
}

pub none-called : Called (replicate body_words (pos 0)) (λ L. 0)
none-called = none-stands body_words refl
