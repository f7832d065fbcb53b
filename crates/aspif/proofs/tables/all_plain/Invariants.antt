use mathlib.Core.Path.{◌≡◌}
use mathlib.Core.List.{map}
use Rattle.aspif.specs.Rules.{all_plain}
use Rattle.aspif.specs.Tables.{rule_at, rules_at, starts_at}
use Rattle.aspif.proofs.tables.all_plain.Given as goal

abbrev pub invariant-loop-rule : goal.invariant-loop-rule
invariant-loop-rule l = all_plain (rules_at l.rules l.table) ≡ all_plain (map rule_at (starts_at l.rule-iterator.left l.rule-iterator.words.now))
