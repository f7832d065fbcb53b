use Rattle.std.proofs.Common.{map, drop}
use Rattle.words.specs.Literals.{variable}
use Rattle.marks.proofs.Sets.{MarkedSoFar}
use Rattle.marks.proofs.marks_of.Given as goal

abbrev pub invariant-loop-x : goal.invariant-loop-x
invariant-loop-x l = MarkedSoFar l.found (map variable (drop l.x-index l.literals)) (map variable l.literals)
