use mathlib.Core.Path.{◌≡◌}
use lib.ListN.{length}
use Prim.Native.Nat.{max}
use Rattle.words.specs.Literals.{top}
use Rattle.weights.specs.Weights.{literals, paired}
use Rattle.aspif.proofs.tables.pairs_top.Given as goal

abbrev pub invariant-loop-rest : goal.invariant-loop-rest
invariant-loop-rest l = top (literals (paired l.pairs)) ≡ max l.most (top (literals (paired l.rest)))

abbrev pub decreases-loop-rest : goal.decreases-loop-rest
decreases-loop-rest l = length l.rest
