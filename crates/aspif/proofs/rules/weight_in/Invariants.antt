use mathlib.Core.Path.{◌≡◌}
use lib.ListN.{length}
use mathlib.Core.Bool.{true}
use Rattle.weights.specs.Weights.{paired}
use Rattle.aspif.specs.Reading.{all_weights, weight_in}
use Rattle.aspif.proofs.rules.weight_in.Given as goal

abbrev pub invariant-loop-rest : goal.invariant-loop-rest
invariant-loop-rest l = (all_weights l.rest ≡ true) × (weight_in (paired l.pairs) l.literal ≡ weight_in (paired l.rest) l.literal)

abbrev pub decreases-loop-rest : goal.decreases-loop-rest
decreases-loop-rest l = length l.rest
