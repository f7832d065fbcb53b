-- `RelevantBySums` of specs/Relevance.antt. A minimal set, without one literal of it, is some of the other pairs that reach the
-- bound with it and not without it; of such pairs those that are needed make a minimal set with it. And the laws of the search.
-- Assumes nothing.
use mathlib.Core.Path.{◌≡◌, refl, sym, ap, subst, ◌∙◌}
use mathlib.Core.Logic.{◌⊎◌, inl, inr}
use mathlib.Core.Bool.{Bool, true, false, not, ◌||◌}
use mathlib.Core.List.Memᴰ
use mathlib.Core.List.{List, [], ◌∷◌}
use Prim.Native.Nat.{ℕ, ◌+◌, ◌-◌, ◌<◌, ◌≤◌}
use native.Mathlib.Omega.{arith}
use lib.Dec.{T, ltb}
use lib.IntN.{ℤ, pos}
use lib.ListN.{length, drop, get_or}
use Rattle.words.specs.Lists.{◌∈◌}
use Rattle.words.specs.Literals.{variable, same, rising, distinct}
use Rattle.words.proofs.Lists.{Decides, reworded, failed, is_true, if-true, same_test, keep→}
use Rattle.words.proofs.Lists.{and-decides, or-decides, not-decides, any-decides, leb-decides}
use Rattle.words.proofs.Literals.{same-decides, has-decides}
use Rattle.words.proofs.Places.{once-decides}
use Rattle.weights.specs.Weights.{Weighted, sum, literals, sublists, is_minimal, bodies, paired}
use Rattle.weights.specs.Claims.{◌⊑◌, with_it, without, Reorder, first-stays, exchange, one_more}
use Rattle.weights.proofs.Sublists.{listed, is-sublist, none_of, through, kept, kept_of, in_whole, sublist-map, sum-le}
use Rattle.weights.proofs.Minimal.{ltb-decides, parts, body→, body←}
use Rattle.weights.proofs.Matching.{pair-on}
use Rattle.weights.proofs.Reached.{Trimmed, trim}
use Rattle.weights.proofs.Reordered.{as_it_was, and-back, reorder-in, reorder-sublist, reorder-sum, reorder-minimal}
use Rattle.weights.proofs.Reordered.{rising-distinct, rising_part}
use Rattle.loops.specs.Relevance.{is_relevant, has_sum, others, RelevantBySums}

-- Sums

abbrev pub HasSum : ℕ → ℕ → List Weighted → Type 0
HasSum low high l = (s : List Weighted) × (s ⊑ l) × ((low ≤ sum s) × (sum s < high))

pub sum-decides : (low high : ℕ) (l : List Weighted) → Decides (has_sum low high l) (HasSum low high l)
unfolding has_sum
sum-decides low high l =
    reworded (λ r. (r.0, is-sublist l r.1, r.2)) (λ r. (r.0, listed r.1, r.2))
    (any-decides (λ s. and-decides (leb-decides low (sum s)) (ltb-decides (sum s) high)) (sublists l))

module _ (low high : ℕ) where
  -- they do not reach the one
  pub sum-short : (l : List Weighted) → sum l < low → has_sum low high l ≡ false
  sum-short l h = failed _ ((not-decides (sum-decides low high l)).from (λ r. omega (arith, sum-le r.1, r.2.0)))

  -- nothing is to be reached: none of them will do, unless nothing is below `high`
  pub sum-empty : (l : List Weighted) → low ≡ 0 → has_sum low high l ≡ ltb 0 high
  sum-empty l h =
      same_test (sum-decides low high l) (ltb-decides 0 high) (λ r. omega (arith, r.2.1))
      (λ k. ([], none_of l, (omega arith, k)))

  -- the first of them is one, or is not
  pub sum-next : (x : Weighted) (l : List Weighted)
      → has_sum low high (x ∷ l) ≡ (has_sum (low - x.weight) (high - x.weight) l || has_sum low high l)
  sum-next x l =
      same_test (sum-decides low high (x ∷ l))
      (or-decides (sum-decides (low - x.weight) (high - x.weight) l) (sum-decides low high l))
      (λ r. to r.1 r.2) from
    where
      to : {s : List Weighted} → s ⊑ x ∷ l → (low ≤ sum s) × (sum s < high)
          → HasSum (low - x.weight) (high - x.weight) l ⊎ HasSum low high l
      to (with_it {s = s} h) k = inl (s, h, (omega (arith, k.0), omega (arith, k.1)))
      to {s} (without h) k = inr (s, h, k)

      from : HasSum (low - x.weight) (high - x.weight) l ⊎ HasSum low high l → HasSum low high (x ∷ l)
      from (inl r) = (x ∷ r.0, with_it r.1, (omega (arith, r.2.0), omega (arith, r.2.1)))
      from (inr r) = (r.0, without r.1, r.2)

  -- the same half, of numbers and pairs that are known by other names
  pub sum-as : {r : Bool} {low' high' v w : ℕ} {k l : List Weighted} → low' ≡ low - v → high' ≡ high - v → v ≡ w → k ≡ l
      → r ≡ has_sum low' high' k → r ≡ has_sum (low - w) (high - w) l
  sum-as p q e f r = rw (p, q, e, f) at r

-- The others

other-decides : (z : ℤ) (y : Weighted) → Decides (not (same z y.literal)) (¬ (z ≡ y.literal))
other-decides z y = not-decides (same-decides z y.literal)

module _ (z : ℤ) (y : Weighted) (l : List Weighted) where
  pub others-other : same z y.literal ≡ false → others z (y ∷ l) ≡ y ∷ others z l
  others-other e = rw e

  pub others-own : same z y.literal ≡ true → others z (y ∷ l) ≡ others z l
  others-own e = rw e

-- the others of some are some of the others
others-part : (z : ℤ) {s l : List Weighted} → s ⊑ l → others z s ⊑ others z l
others-part z {s} h = kept_of is-other (through (kept is-other s) h) (λ u j. (keep→ is-other s j).1)
  where
    is-other : Weighted → Bool
    is-other y = not (same z y.literal)

-- where no literal is z all are others
all_others : (z : ℤ) (l : List Weighted) → ¬ (z ∈ literals l) → others z l ≡ l
all_others z [] n = refl
all_others z (y ∷ l) n =
    let e : same z y.literal ≡ false = failed _ ((other-decides z y).from (λ p. n (Memᴰ.head p))) in
    others-other z y l e ∙ ap (λ (k : List Weighted). y ∷ k) (all_others z l (λ i. n (Memᴰ.tail i)))

-- the first literal stands nowhere else, and neither does any other
module _ (y : Weighted) (l : List Weighted) (o : distinct (literals (y ∷ l)) ≡ true) where
  once : ¬ (y.literal ∈ literals l)
  once i = (if-true (once-decides y.literal (literals l)) o).0 (y.literal, i, refl)

  distinct-rest : distinct (literals l) ≡ true
  distinct-rest = (if-true (once-decides y.literal (literals l)) o).1

in-literals : {x : Weighted} {l : List Weighted} → x ∈ l → x.literal ∈ literals l
in-literals i = Memᴰ.map (λ x. x.literal) i

-- a pair first, and then the others
pub first_of : {x : Weighted} {l : List Weighted} → distinct (literals l) ≡ true → x ∈ l → Reorder l (x ∷ others x.literal l)
first_of {x} o (Memᴰ.head {x = y} {xs = l} p) =
    let own = others-own y.literal y l (is_true (same-decides y.literal y.literal) refl) in
    subst (λ (u : Weighted). Reorder (y ∷ l) (u ∷ others u.literal (y ∷ l))) (sym p)
    (rw (own, all_others y.literal l (once y l o)) (as_it_was (y ∷ l)))
first_of {x} o (Memᴰ.tail {x = y} {xs = l} i) =
    let n : ¬ (x.literal ≡ y.literal) = λ p. once y l o (rw p at (in-literals i)) in
    rw (others-other x.literal y l (failed _ ((other-decides x.literal y).from n)))
    (one_more (first-stays (first_of (distinct-rest y l o) i)) exchange)

-- what the others add up to
pub others-sum : {x : Weighted} {l : List Weighted} → rising (literals l) ≡ true → x ∈ l
    → sum l ≡ x.weight + sum (others x.literal l)
others-sum {l = l} e i = reorder-sum (first_of (rising-distinct (literals l) e) i)

-- pairs of the same literal are the same pair
same-pair : {x y : Weighted} {l : List Weighted} → distinct (literals l) ≡ true → x ∈ l → y ∈ l → x.literal ≡ y.literal → x ≡ y
same-pair o (Memᴰ.head p) (Memᴰ.head q) e = p ∙ sym q
same-pair o (Memᴰ.head {x = z} {xs = l} p) (Memᴰ.tail j) e =
    absurd (once z l o (rw (← e, ap (λ (u : Weighted). u.literal) p) at (in-literals j)))
same-pair o (Memᴰ.tail {x = z} {xs = l} i) (Memᴰ.head q) e =
    absurd (once z l o (rw (e, ap (λ (u : Weighted). u.literal) q) at (in-literals i)))
same-pair o (Memᴰ.tail {x = z} {xs = l} i) (Memᴰ.tail j) e = same-pair (distinct-rest z l o) i j e

-- The pairs in words

module _ (z : ℤ) (ws : List ℤ) where
  -- where the others weigh something there is a pair
  pub some_pair : 0 < sum (others z (paired ws)) → 1 < length ws
  some_pair = go ws
    where
      go : (ws : List ℤ) → 0 < sum (others z (paired ws)) → 1 < length ws
      go [] h = absurd (omega arith)
      go (x ∷ []) h = absurd (omega arith)
      go (x ∷ w ∷ ws) h = omega arith

  module _ (h : 1 < length ws) where
    abbrev pub pair : Weighted
    pair = record { literal = get_or ws 0 (pos 0); weight = variable (get_or ws 1 (pos 0)) }

    -- the first is not one of the others, or it is
    pub passed_over : same z (get_or ws 0 (pos 0)) ≡ true → others z (paired ws) ≡ others z (paired (drop 2 ws))
    passed_over e = ap (others z) (pair-on ws 0 h) ∙ others-own z pair (paired (drop 2 ws)) e

    pub taken : same z (get_or ws 0 (pos 0)) ≡ false → others z (paired ws) ≡ pair ∷ others z (paired (drop 2 ws))
    taken e = ap (others z) (pair-on ws 0 h) ∙ others-other z pair (paired (drop 2 ws)) e

-- The claim

module _ (b : ℕ) (l : List Weighted) (x : Weighted) (e : rising (literals l) ≡ true) (i : x ∈ l) where
  abbrev z : ℤ
  z = x.literal

  abbrev Body : Type 0
  Body = (t : List ℤ) × (t ∈ bodies b l) × (z ∈ t)

  body-decides : Decides (is_relevant b l z) Body
  body-decides = any-decides (has-decides z) (bodies b l)

  to : Body → HasSum (b - x.weight) b (others z l)
  to r =
      let s = body→ b l r.1 in
      let y = Memᴰ.of_map (λ u. u.literal) s.0 (rw (← s.3) at r.2) in
      let p : y.0 ≡ x = same-pair (rising-distinct (literals l) e) (in_whole y.1 s.1) i y.2 in
      let m : x ∈ s.0 = rw p at y.1 in
      let o = rising-distinct (literals s.0) (rising_part (sublist-map (λ u. u.literal) s.1) e) in
      let k = (parts b (x ∷ others z s.0)).to (reorder-minimal b (first_of o m) s.2) in
      (others z s.0, others-part z s.1, (omega (arith, k.0), omega (arith, k.1 x (Memᴰ.head refl))))

  from : HasSum (b - x.weight) b (others z l) → Body
  from r =
      let u = trim b x.weight r.0 (omega (arith, r.2.0)) in
      let m : T (is_minimal b (x ∷ u.part)) = (parts b (x ∷ u.part)).from (omega (arith, u.reaches), λ y j. needed u j) in
      let q = reorder-sublist (with_it (through u.of r.1)) (and-back (first_of (rising-distinct (literals l) e) i)) in
      (literals q.0, body← b l q.1 (reorder-minimal b q.2 m), in-literals (reorder-in q.2 (Memᴰ.head refl)))
    where
      needed : (u : Trimmed b x.weight r.0) {y : Weighted} → y ∈ x ∷ u.part → sum (x ∷ u.part) < b + y.weight
      needed u (Memᴰ.head p) = rw p (omega (arith, sum-le u.of, r.2.1))
      needed u {y} (Memᴰ.tail j) = omega (arith, u.needed y j)

pub relevant-by-sums : RelevantBySums
relevant-by-sums b l x e i =
    same_test (body-decides b l x e i) (sum-decides (b - x.weight) b (others x.literal l)) (to b l x e i) (from b l x e i)
