use Rattle.std.proofs.Common.{◌≡◌}
use Rattle.marks.specs.Marks.{same_marks}
use Rattle.marks.proofs.is_same_set.Given as goal

abbrev pub invariant-loop-v : goal.invariant-loop-v
invariant-loop-v l = l.same ≡ same_marks l.v l.a l.b
