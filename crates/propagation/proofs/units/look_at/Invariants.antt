use Rattle.propagation.proofs.Looks.{Seen}
use Rattle.propagation.proofs.units.look_at.Given as goal

abbrev pub invariant-loop-j : goal.invariant-loop-j
invariant-loop-j l = Seen l.assignment l.literals l.j l.one
