use mathlib.Core.Path.{◌≡◌}
use lib.ListN.{length}
use mathlib.Core.List.{map}
use Rattle.words.specs.Limits.{largest}
use Rattle.words.specs.Lists.{ascends}
use Rattle.words.specs.Literals.{variable}
use Rattle.weights.specs.Weights.{literals, paired}
use Rattle.aspif.proofs.tables.pairs_ascend.Given as goal

abbrev pub invariant-loop-rest : goal.invariant-loop-rest
invariant-loop-rest l = ascends 0 largest (map variable (literals (paired l.pairs))) ≡ ascends l.low largest (map variable (literals (paired l.rest)))

abbrev pub decreases-loop-rest : goal.decreases-loop-rest
decreases-loop-rest l = length l.rest
