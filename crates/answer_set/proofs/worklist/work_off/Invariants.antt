use Rattle.std.proofs.Common.{◌≤◌}
use Rattle.aspif.specs.Tables.{rules_at}
use Rattle.marks.specs.Marks.{marked}
use Rattle.answer_set.specs.Private.{Given}
use Rattle.answer_set.proofs.worklist.work_off.Given as goal

abbrev pub invariant-loop : goal.invariant-loop
invariant-loop l = (l.entry ≤ 65535) × Given (marked l.inside) (rules_at l.rules l.table) l.initial.marks l.marks
