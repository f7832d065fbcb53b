-- Entries for each pair of a weight body, and for each rule of a table: what one more makes of those that are there.
-- Assumes nothing.
use mathlib.Core.Path.{◌≡◌, refl, sym, ap, ◌∙◌}
use mathlib.Core.Bool.{Bool, true, false}
use mathlib.Core.List.Memᴰ
use mathlib.Core.List.{List, [], ◌∷◌, ◌++◌, map, append-nil, append_assoc}
use Prim.Native.Nat.{ℕ, ◌+◌, ◌*◌, ◌-◌, ◌<◌, ◌≤◌}
use native.Mathlib.Omega.{arith}
use native.Mathlib.Numerals.{add-one}
use lib.IntN.{ℤ, pos}
use lib.ListN.{length, take, drop, get_or, set, length-set, length-map}
use lib.Seq.{length-take-le, take-suc-set, take-take, drop-drop, drop_at}
use borrow.Rule.Slice.PartMut.{put_mid, mid_of}
use Rattle.words.specs.Lists.{◌∈◌}
use Rattle.words.specs.Literals.{variable}
use Rattle.words.proofs.Parts.{put-tail, mid-front, before-put, length-put}
use Rattle.weights.specs.Weights.{Weighted, paired, most_weighted}
use Rattle.weights.proofs.Matching.{pair-on, pair-none}
use Rattle.aspif.specs.Rules.{weights}
use Rattle.aspif.specs.Tables.{is_weighted, body_words_at, bound_at, body_at, rule_at, sound_at, rules_at, starts_at}
use Rattle.aspif.proofs.Cursors.{starts-length, rules_from_starts}
use Rattle.aspif.proofs.SoundWeights.{weighing}
use Rattle.loops.specs.Relevance.{RelevantPairs, RelevantRule, Relevant}

-- The loop of `fill_pairs`: n entries are made, of the pairs before word i

module _ (g : Weighted → ℕ) (pairs : List ℤ) where
  pub record Filled (entries : List ℕ) (n i : ℕ) : Type 0 where
    pub within : i ≤ length pairs
    pub room : n + length (paired (drop i pairs)) ≤ length entries
    pub are : take n entries ++ map g (paired (drop i pairs)) ≡ map g (paired pairs)
    pub of : (x : Weighted) → x ∈ paired (drop i pairs) → x ∈ paired pairs

  pub filled_none : {entries : List ℕ} → length (paired pairs) ≤ length entries → Filled entries 0 0
  filled_none h = record { within = omega arith; room = omega arith; are = refl; of = λ x i. i }

  module _ {entries : List ℕ} {n i : ℕ} (f : Filled entries n i) where
    pub filled-all : length pairs ≤ i + 1 → take (length (paired pairs)) entries ≡ map g (paired pairs)
    filled-all h =
        let e : take n entries ≡ map g (paired pairs) = rw (pair-none pairs i h, append-nil) at f.are in
        let k : length (take n entries) ≡ n = length-take-le n entries (omega (arith, f.room)) in
        let c : length (paired pairs) ≡ n = sym (length-map (paired pairs) g) ∙ sym (ap length e) ∙ k in
        rw c e

    module _ (h : i + 1 < length pairs) where
      abbrev x : Weighted
      x = record { literal = get_or pairs i (pos 0); weight = variable (get_or pairs (i + 1) (pos 0)) }

      pub filled-room : n < length entries
      filled-room = omega (arith, f.room, ap length (pair-on pairs i h))

      pub filled_in : x ∈ paired pairs
      filled_in = f.of x (rw (pair-on pairs i h) (Memᴰ.head refl))

      pub filled_more : {v next : ℕ} → v ≡ g x → next ≡ i + 2 → Filled (set entries n v) (n + 1) next
      filled_more {v} e on = rw on (record {
        within = omega arith;
        room = omega (arith, f.room, ap length (pair-on pairs i h), length-set entries n v);
        are = rw (add-one n, take-suc-set entries n v filled-room, e)
            (append_assoc (take n entries) (g x ∷ []) (map g (paired (drop (i + 2) pairs)))
            ∙ ap (λ (l : List Weighted). take n entries ++ map g l) (sym (pair-on pairs i h)) ∙ f.are);
        of = λ y j. f.of y (rw (pair-on pairs i h) (Memᴰ.tail j));
      })

-- A rule with a weight body

pub weights-of : (ws : List ℤ) → is_weighted ws ≡ true → body_at ws ≡ weights (bound_at ws) (paired (body_words_at ws))
unfolding body_at
weights-of ws e = rw e

-- nothing is said of a plain body
pub plain-entries : (ws : List ℤ) (m : List ℕ) → is_weighted ws ≡ false → RelevantPairs m (body_at ws)
unfolding body_at
plain-entries ws m e = rw e tt

-- twelve entries are all that is read
entries-as : (ws : List ℤ) → sound_at ws ≡ true → (m m' : List ℕ) → take most_weighted m ≡ take most_weighted m'
    → RelevantPairs m (body_at ws) → RelevantPairs m' (body_at ws)
entries-as ws s m m' e r = by (is_weighted ws) refl
  where
    by : (t : Bool) → is_weighted ws ≡ t → RelevantPairs m' (body_at ws)
    by true p =
        let few = (weighing ws s p).few in
        let n = length (paired (body_words_at ws)) in
        let same : take n m' ≡ take n m =
        sym (take-take n most_weighted m' few) ∙ ap (take n) (sym e) ∙ take-take n most_weighted m few in
        rw (weights-of ws p) (same ∙ (rw (weights-of ws p) at r))
    by false p = plain-entries ws m' p

-- a lent tail that is back is what was put
drop-tail : (a : ℕ) (xs ys : List ℕ) → a ≤ length xs → length ys ≡ length xs - a → drop a (put_mid a (length xs - a) xs ys) ≡ ys
drop-tail a xs ys h n = rw (put-tail a xs ys h) (drop_at (take a xs) ys a (length-take-le a xs h))

-- The loop of `fill`: the entries before place `at` are made, of the rules before those that begin at `starts`, and right
-- whatever stands behind them

pub record Entering (table : List ℤ) (rules : ℕ) (relevant : List ℕ) (at : ℕ) (starts : List (List ℤ)) : Type 0 where
  pub room : at + most_weighted * length starts ≤ length relevant
  pub done : (m : List ℕ) → take at m ≡ take at relevant → Relevant (drop at m) (map rule_at starts)
      → Relevant m (rules_at rules table)

module _ {table : List ℤ} {rules : ℕ} where
  pub entering-none : {relevant : List ℕ} → most_weighted * rules ≤ length relevant → Entering table rules relevant 0 (starts_at rules table)
  entering-none h = record { room = omega (arith, h, starts-length rules table); done = λ m e r. rw (rules_from_starts rules table) r }

  module _ {relevant : List ℕ} {at : ℕ} {starts : List (List ℤ)} (f : Entering table rules relevant at starts) where
    pub entering-all : starts ≡ [] → Relevant relevant (rules_at rules table)
    unfolding Relevant
    entering-all h = f.done relevant refl (rw h tt)

    module _ {ws : List ℤ} {others : List (List ℤ)} (h : starts ≡ ws ∷ others) where
      pub fits : at + most_weighted ≤ length relevant
      fits = omega (arith, f.room, ap length h)

      abbrev after : List ℕ → List ℕ
      after ys = put_mid at (length relevant - at) relevant ys

      pub after-length : (ys : List ℕ) → length ys ≡ length relevant - at → length (after ys) ≡ length relevant
      after-length ys n = length-put at (length relevant - at) relevant ys (omega (arith, fits)) n

      -- the entries of one more rule, at the front of what was lent
      pub entering-more : sound_at ws ≡ true → (ys : List ℕ) → length ys ≡ length relevant - at → RelevantRule ys (rule_at ws)
          → Entering table rules (after ys) (at + most_weighted) others
      unfolding Relevant
      entering-more s ys n r = record {
        room = omega (arith, f.room, ap length h, after-length ys n);
        done = λ m e q. f.done m (first m e) (rw h (λ k. rule m e (r k), rw (drop-drop most_weighted at m) q));
      }
        where
          first : (m : List ℕ) → take (at + most_weighted) m ≡ take (at + most_weighted) (after ys) → take at m ≡ take at relevant
          first m e =
              sym (take-take at (at + most_weighted) m (omega arith)) ∙ ap (take at) e
              ∙ take-take at (at + most_weighted) (after ys) (omega arith)
              ∙ before-put at (length relevant - at) relevant ys (omega (arith, fits)) n at (omega arith)

          twelve : (m : List ℕ) → take (at + most_weighted) m ≡ take (at + most_weighted) (after ys)
              → take most_weighted ys ≡ take most_weighted (drop at m)
          twelve m e =
              ap (take most_weighted) (sym (drop-tail at relevant ys (omega (arith, fits)) n))
              ∙ sym (mid-front at most_weighted (at + most_weighted) (after ys) (omega arith))
              ∙ ap (mid_of at most_weighted) (sym e) ∙ mid-front at most_weighted (at + most_weighted) m (omega arith)

          rule : (m : List ℕ) → take (at + most_weighted) m ≡ take (at + most_weighted) (after ys)
              → RelevantPairs ys (body_at ws) → RelevantPairs (drop at m) (body_at ws)
          rule m e = entries-as ws s ys (drop at m) (twelve m e)
