use Rattle.loops.specs.Searches.{steps}
use Rattle.loops.proofs.Reaching.{Reaching, undone}
use Rattle.loops.proofs.searches.explore.Given as goal

abbrev pub invariant-loop-a : goal.invariant-loop-a
invariant-loop-a l = Reaching (steps l.edges l.back) l.n l.found l.done

abbrev pub decreases-loop-a : goal.decreases-loop-a
decreases-loop-a l = undone l.n l.done
