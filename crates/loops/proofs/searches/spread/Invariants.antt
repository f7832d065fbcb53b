use Rattle.loops.specs.Searches.{steps}
use Rattle.loops.proofs.Reaching.{Spreading}
use Rattle.loops.proofs.searches.spread.Given as goal

abbrev pub invariant-loop-b : goal.invariant-loop-b
invariant-loop-b l = Spreading (steps l.edges l.back l.a) l.n l.b l.initial.found l.found
