use Rattle.marks.specs.Marks.{up_to}
use Rattle.marks.proofs.Sets.{MarkedSoFar}
use Rattle.splits.proofs.halves.know_atoms.Given as goal

abbrev pub invariant-loop-left : goal.invariant-loop-left
invariant-loop-left l = MarkedSoFar l.known (up_to l.left) (up_to l.atoms)
