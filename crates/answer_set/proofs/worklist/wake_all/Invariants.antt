use Rattle.std.proofs.Common.{◌≤◌}
use Rattle.answer_set.proofs.worklist.wake_all.Given as goal

abbrev pub invariant-loop-head : goal.invariant-loop-head
invariant-loop-head l = l.first ≤ 65535
