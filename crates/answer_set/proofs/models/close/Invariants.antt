use Rattle.std.proofs.Common.{◌≡◌, ◌-◌}
use Rattle.aspif.specs.Tables.{rules_at}
use Rattle.marks.specs.Marks.{marked}
use Rattle.answer_set.specs.SetTest.{rounds}
use Rattle.answer_set.proofs.models.close.Given as goal

abbrev pub invariant-loop : goal.invariant-loop
invariant-loop l = rounds (marked l.inside) l.most (rules_at l.rules l.table) l.initial.marks ≡ rounds (marked l.inside) (l.most - l.counter) (rules_at l.rules l.table) l.marks
