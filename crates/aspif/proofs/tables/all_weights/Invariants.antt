use mathlib.Core.Path.{◌≡◌}
use lib.ListN.{length}
use Rattle.aspif.specs.Reading.{all_weights}
use Rattle.aspif.proofs.tables.all_weights.Given as goal

abbrev pub invariant-loop-rest : goal.invariant-loop-rest
invariant-loop-rest l = all_weights l.pairs ≡ all_weights l.rest

abbrev pub decreases-loop-rest : goal.decreases-loop-rest
decreases-loop-rest l = length l.rest
