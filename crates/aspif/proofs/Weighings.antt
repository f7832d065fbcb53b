-- Loops over the pairs of a weight body, two words at a time: what the first pair makes of a test, and what is left after it.
-- Assumes nothing.
use mathlib.Core.Path.{◌≡◌, refl}
use mathlib.Core.Bool.{◌&&◌}
use mathlib.Core.List.{List, [], ◌∷◌}
use Prim.Native.Nat.{◌-◌, ◌≤◌, ◌<◌}
use native.Mathlib.Omega.{arith}
use lib.Dec.{eqb}
use lib.IntN.{ℤ, pos}
use lib.ListN.{length, take, drop, get_or}
use Rattle.words.proofs.Parts.{tail_of}
use Rattle.words.specs.Literals.{variable}
use Rattle.weights.specs.Weights.{paired}
use Rattle.aspif.specs.Rules.{is_weight}
use Rattle.aspif.specs.Reading.{all_weights}

pub weights_two : (ws : List ℤ) → 2 ≤ length ws → all_weights ws ≡ (is_weight (get_or ws 1 (pos 0)) && all_weights (take (length ws - 2) (drop 2 ws)))
unfolding all_weights
weights_two [] h = absurd (omega arith)
weights_two (z ∷ []) h = absurd (omega arith)
weights_two (z ∷ w ∷ l) h = rw (tail_of 2 (z ∷ w ∷ l)) refl

pub paired_two : (ws : List ℤ) → 2 ≤ length ws
    → paired ws ≡ record { literal = get_or ws 0 (pos 0); weight = variable (get_or ws 1 (pos 0)) } ∷ paired (take (length ws - 2) (drop 2 ws))
paired_two [] h = absurd (omega arith)
paired_two (z ∷ []) h = absurd (omega arith)
paired_two (z ∷ w ∷ l) h = rw (tail_of 2 (z ∷ w ∷ l)) refl

-- fewer than two words are pairs only where there is none
pub weights_end : (ws : List ℤ) → length ws < 2 → eqb (length ws) 0 ≡ all_weights ws
unfolding all_weights
weights_end [] h = refl
weights_end (z ∷ []) h = refl
weights_end (z ∷ w ∷ l) h = absurd (omega arith)
