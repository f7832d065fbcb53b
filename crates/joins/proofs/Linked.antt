-- Levels, pairs by their places, and one turn of a chain. Assumes nothing.
use mathlib.Core.Path.{◌≡◌, refl, sym, ap, subst, ◌∙◌}
use mathlib.Core.Bool.{Bool, true, true≢false}
use mathlib.Core.List.Memᴰ
use mathlib.Core.List.{List, [], ◌∷◌, ◌++◌, map}
use Prim.Native.Nat.{ℕ, zero, suc, ◌+◌, ◌*◌, ◌-◌, ◌≤◌, ◌<◌}
use native.Mathlib.Omega.{arith}
use lib.IntN.{ℤ}
use lib.ListN.{length, take, drop}
use lib.Seq.{length-take-le}
use Rattle.words.specs.Lists.{◌∈◌, filter}
use Rattle.words.specs.Literals.{variable}
use Rattle.words.proofs.Lists.{by-test, and_left, and_right, and_both, length-keep}
use Rattle.weights.specs.Weights.{Weighted, paired, most_weight}
use Rattle.aspif.specs.Rules.{is_weight}
use Rattle.aspif.specs.Reading.{all_weights}
use Rattle.sums.specs.Levels.{Ascending, few, sums_of, is_useful, levels_for, levelled}
use Rattle.sums.proofs.Levels.{levels-within}
use Rattle.sums.specs.Plans.{numbered, group_rule}
use Rattle.totalizer.specs.Lists.{SumsUpTo}
use Rattle.totalizer.specs.declared.texts.Place.{Place}
use Rattle.totalizer.specs.Emitting.{Emits}
use Rattle.totalizer.proofs.Emitted.{emits-on}
use Rattle.joins.specs.Joining.{node_joins}
use Rattle.totalizer.proofs.Merging.{few-sums}
use Rattle.totalizer.proofs.Adding.{sums-up-to}
use Rattle.joins.specs.Chaining.{pairs_to, pairs_from, pairs_within, group_levels, prefix_levels, turn_rules}

-- Levels

few-levels : (b : ℕ) (rest l : List Weighted) → length (levels_for b rest l) ≤ suc b
unfolding levels_for
few-levels b rest l =
    let k = length-keep (is_useful b (sums_of b rest) (sums_of b l)) (sums_of b l) in
    omega (arith, k, few-sums (sums-up-to b l))

pub few-group : (b n m : ℕ) (ws : List ℤ) → length (group_levels b n m ws) ≤ suc b
few-group b n m ws = few-levels b (pairs_to n ws ++ pairs_from m ws) (pairs_within n m ws)

pub few-prefix : (b n : ℕ) (ws : List ℤ) → length (prefix_levels b n ws) ≤ suc b
few-prefix b n ws = few-levels b (pairs_from n ws) (pairs_to n ws)

filter-ascends : (f : ℕ → Bool) (low m : ℕ) (us : List ℕ) → m ≤ low → Ascending low us → Ascending m (filter f us)
filter-ascends f low m [] h a = tt
filter-ascends f low m (u ∷ us) h a =
    let k = a.0 in
    by-test (Ascending m) (f u) (λ e. (omega arith, filter-ascends f (suc u) (suc u) us (omega arith) a.1))
    (λ e. filter-ascends f (suc u) m us (omega arith) a.1)

positive : (us : List ℕ) → Ascending 0 us → ((u : ℕ) → u ∈ us → 0 < u) → Ascending 1 us
positive [] a h = tt
positive (u ∷ us) a h = (h u (Memᴰ.head refl), a.1)

-- with 0 before them levels are like sums
levels-light : {b : ℕ} → b ≤ most_weight → (rest l : List Weighted) → SumsUpTo most_weight (0 ∷ levels_for b rest l)
unfolding levelled levels_for
levels-light {b} h rest l =
    let us = sums_of b l in
    let f = is_useful b (sums_of b rest) us in
    let w : (u : ℕ) → u ∈ filter f us → (0 < u) × (u ≤ b) = λ u i. levels-within b rest (few l) u i in
    record {
      ascend = (omega arith, positive (filter f us) (filter-ascends f 0 0 us (omega arith) (sums-up-to b l).ascend) (λ u i. (w u i).0));
      low = λ u i. low u i w;
    }
  where
    low : (u : ℕ) {us : List ℕ} → u ∈ 0 ∷ us → ((v : ℕ) → v ∈ us → (0 < v) × (v ≤ b)) → u ≤ most_weight
    low u (Memᴰ.head e) w = omega arith
    low u (Memᴰ.tail i) w = omega (arith, w u i)

-- so are those that are at hand
pub levels-front : {b : ℕ} → b ≤ most_weight → (rest l : List Weighted) {us : List ℕ} → us ≡ levels_for b rest l → SumsUpTo most_weight (0 ∷ us)
levels-front h rest l e = subst (λ (us : List ℕ). SumsUpTo most_weight (0 ∷ us)) (sym e) (levels-light h rest l)

-- Pairs by their places

twice : (n : ℕ) → 2 * suc n ≡ suc (suc (2 * n))
twice n = omega arith

pub pairs-take : (n : ℕ) (ws : List ℤ) → pairs_to n ws ≡ take n (paired ws)
pairs-take zero ws = refl
pairs-take (suc n) [] = rw (twice n)
pairs-take (suc n) (z ∷ []) = rw (twice n)
pairs-take (suc n) (z ∷ w ∷ ws) = rw (twice n) (ap (λ (l : List Weighted). record { literal = z; weight = variable w } ∷ l) (pairs-take n ws))

pub pairs-drop : (n : ℕ) (ws : List ℤ) → pairs_from n ws ≡ drop n (paired ws)
pairs-drop zero ws = refl
pairs-drop (suc n) [] = rw (twice n)
pairs-drop (suc n) (z ∷ []) = rw (twice n)
pairs-drop (suc n) (z ∷ w ∷ ws) = rw (twice n) (pairs-drop n ws)

pub weights-take : (n : ℕ) (ws : List ℤ) → all_weights ws ≡ true → all_weights (take (2 * n) ws) ≡ true
unfolding all_weights
weights-take zero ws e = refl
weights-take (suc n) [] e = rw (twice n)
weights-take (suc n) (z ∷ []) e = absurd (true≢false (sym e))
weights-take (suc n) (z ∷ w ∷ ws) e =
    rw (twice n) (and_both (and_left (is_weight w) (all_weights ws) e) (weights-take n ws (and_right (is_weight w) (all_weights ws) e)))

pub weights-drop : (n : ℕ) (ws : List ℤ) → all_weights ws ≡ true → all_weights (drop (2 * n) ws) ≡ true
unfolding all_weights
weights-drop zero ws e = e
weights-drop (suc n) [] e = rw (twice n)
weights-drop (suc n) (z ∷ []) e = absurd (true≢false (sym e))
weights-drop (suc n) (z ∷ w ∷ ws) e = rw (twice n) (weights-drop n ws (and_right (is_weight w) (all_weights ws) e))

-- the words of a part
within-twice : (n m : ℕ) → 2 * m - 2 * n ≡ 2 * (m - n)
within-twice n m = omega arith

pub weights-within : (n m : ℕ) (ws : List ℤ) → all_weights ws ≡ true → all_weights (take (2 * m - 2 * n) (drop (2 * n) ws)) ≡ true
weights-within n m ws e = rw (within-twice n m) (weights-take (m - n) (drop (2 * n) ws) (weights-drop n ws e))

-- One turn

-- how many levels there are
pub count-is : {r : ℕ} (l : List ℕ) {ls : List ℕ} → r ≤ length l → take r l ≡ ls → r ≡ length ls
count-is {r} l h e = sym (length-take-le r l h) ∙ ap length e

-- a group's rules, and those of the node that joins it
pub turn-emits : (first : ℕ) {us us' : List ℕ} (second : ℕ) (l : List Weighted) {vs vs' : List ℕ} {s k : ℕ} (ts : List ℕ) {before between after : List ℕ}
    {p q r : Place} → us' ≡ us → vs' ≡ vs → s ≡ second → k ≡ length vs → Emits (map group_rule (numbered second l vs)) before between p q
    → Emits (node_joins (s + k) ts first us' s vs') between after q r → Emits (turn_rules first us second l vs ts) before after p r
unfolding turn_rules
turn-emits first second l ts eu ev es ek e f = emits-on e (rw (eu, ev, ek, es) at f)
