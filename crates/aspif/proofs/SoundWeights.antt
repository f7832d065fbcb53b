-- What is known of the weight body of a rule that is sound: few pairs, small weights and bound, literals that rise.
-- Assumes nothing.
use mathlib.Core.Path.{◌≡◌}
use mathlib.Core.Bool.{true}
use mathlib.Core.List.{List, [], ◌∷◌}
use Prim.Native.Nat.{◌+◌, ◌*◌, ◌≤◌}
use native.Mathlib.Omega.{arith}
use borrow.Author.Tests.{leb-true}
use lib.Dec.{leb}
use lib.IntN.{ℤ, pos}
use lib.ListN.{length, drop, get_or, length-take}
use Rattle.words.specs.Limits.{largest}
use Rattle.words.specs.Literals.{rising}
use Rattle.words.specs.Literals as Literals
use Rattle.words.proofs.Lists.{and_left, and_right}
use Rattle.words.proofs.Ascending.{ascends-rising}
use Rattle.weights.specs.Weights.{sum, literals, paired, most_weight, most_weighted, most_sum}
use Rattle.weights.proofs.Reordered.{rising-distinct}
use Rattle.aspif.specs.Rules.{is_weight}
use Rattle.aspif.specs.Reading.{all_weights}
use Rattle.aspif.proofs.PairWords.{up_to}
use Rattle.aspif.specs.Tables.{heads_sound, is_weighted, head_count, body_count, head_start, body_length, heads_at, body_words_at, bound_at, shape_sound, weights_sound, body_sound, sound_at}

-- two words for each pair
pub pairs-half : (ws : List ℤ) → 2 * length (paired ws) ≤ length ws
pairs-half [] = omega arith
pairs-half (z ∷ []) = omega arith
pairs-half (z ∷ w ∷ ws) = omega (arith, pairs-half ws)

pub sum-small : (ws : List ℤ) → all_weights ws ≡ true → sum (paired ws) ≤ length (paired ws) * most_weight
unfolding all_weights
sum-small [] e = omega arith
sum-small (z ∷ []) e = omega arith
sum-small (z ∷ w ∷ ws) e = omega (arith, (up_to most_weight w (and_left (is_weight w) _ e)).1, sum-small ws (and_right (is_weight w) _ e))

pub record Weighing (ws : List ℤ) : Type 0 where
  pub few : length (paired (body_words_at ws)) ≤ most_weighted
  pub bound : bound_at ws ≤ most_weight
  pub light : sum (paired (body_words_at ws)) ≤ most_sum
  pub rises : rising (literals (paired (body_words_at ws))) ≡ true
  pub distinct : Literals.distinct (literals (paired (body_words_at ws))) ≡ true

-- the words of the body are at most twice its count
words-few : (ws : List ℤ) → is_weighted ws ≡ true → length (body_words_at ws) ≤ 2 * body_count ws
unfolding body_words_at
words-few ws e = rw (length-take (body_length ws) (drop (head_start ws + head_count ws) ws), e) (omega arith)

weights-sound : (ws : List ℤ) → sound_at ws ≡ true → is_weighted ws ≡ true → weights_sound ws ≡ true
unfolding sound_at body_sound
weights-sound ws s e = rw e at (and_right (heads_sound (heads_at ws)) _ (and_right (shape_sound ws) _ s))

pub weighing : (ws : List ℤ) → sound_at ws ≡ true → is_weighted ws ≡ true → Weighing ws
unfolding weights_sound bound_at
weighing ws s e =
    let f = weights-sound ws s e in
    let g = and_right (leb (body_count ws) most_weighted) _ f in
    let h = and_right (is_weight (get_or ws 4 (pos 0))) _ g in
    let n = leb-true (body_count ws) most_weighted (and_left (leb (body_count ws) most_weighted) _ f) in
    let few : length (paired (body_words_at ws)) ≤ most_weighted = omega (arith, n, words-few ws e, pairs-half (body_words_at ws)) in
    let r = ascends-rising 0 largest (literals (paired (body_words_at ws))) (and_right (all_weights (body_words_at ws)) _ h) in
    record {
      few = few;
      bound = (up_to most_weight (get_or ws 4 (pos 0)) (and_left (is_weight (get_or ws 4 (pos 0))) _ g)).1;
      light = omega (arith, few, sum-small (body_words_at ws) (and_left (all_weights (body_words_at ws)) _ h));
      rises = r;
      distinct = rising-distinct (literals (paired (body_words_at ws))) r;
    }
