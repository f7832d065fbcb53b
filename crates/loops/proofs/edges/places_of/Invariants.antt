use Rattle.loops.proofs.Placing.{Placing}
use Rattle.loops.proofs.edges.places_of.Given as goal

abbrev pub invariant-loop-i : goal.invariant-loop-i
invariant-loop-i l = Placing l.places l.numbers l.i
