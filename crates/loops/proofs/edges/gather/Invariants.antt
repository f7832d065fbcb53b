use Rattle.loops.proofs.HeadPlaces.{Gathering}
use Rattle.loops.proofs.edges.gather.Given as goal

abbrev pub invariant-loop-h : goal.invariant-loop-h
invariant-loop-h l = Gathering l.places l.heads l.row l.n l.h-index
