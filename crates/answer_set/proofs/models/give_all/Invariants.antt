use mathlib.Core.Path.{◌≡◌}
use mathlib.Core.Bool.{false}
use mathlib.Core.List.{map}
use Rattle.aspif.specs.Tables.{rule_at, starts_at, rules_at}
use Rattle.marks.specs.Marks.{marked}
use Rattle.answer_set.specs.SetTest.{round}
use Rattle.answer_set.proofs.models.give_all.Given as goal

abbrev pub invariant-loop-rule : goal.invariant-loop-rule
invariant-loop-rule l =
    (round (marked l.inside) (rules_at l.rules l.table) l.initial.marks
    ≡ round (marked l.inside) (map rule_at (starts_at l.rule-iterator.left l.rule-iterator.words.now)) l.marks)
    × (l.new ≡ false → l.marks ≡ l.initial.marks)
