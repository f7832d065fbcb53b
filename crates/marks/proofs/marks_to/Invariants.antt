use Rattle.std.proofs.Common.{◌-◌}
use Rattle.marks.specs.Marks.{Marks, up_to}
use Rattle.marks.proofs.marks_to.Given as goal

abbrev pub invariant-loop-v : goal.invariant-loop-v
invariant-loop-v l = Marks l.found (up_to (l.v - 1))
