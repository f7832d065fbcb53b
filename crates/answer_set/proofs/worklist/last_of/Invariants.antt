use Rattle.std.proofs.Common.{◌≤◌}
use Rattle.answer_set.proofs.worklist.last_of.Given as goal

abbrev pub invariant-loop : goal.invariant-loop
invariant-loop l = l.at ≤ 65535
