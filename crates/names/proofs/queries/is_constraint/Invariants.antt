use mathlib.Core.Path.{◌≡◌}
use mathlib.Core.List.{map}
use Rattle.words.specs.Lists.{any}
use Rattle.aspif.specs.Rules.{expand}
use Rattle.aspif.specs.Tables.{rule_at, rules_at, starts_at}
use Rattle.names.specs.Queries.{constraining}
use Rattle.names.proofs.queries.is_constraint.Given as goal

abbrev pub invariant-loop-rule : goal.invariant-loop-rule
invariant-loop-rule l =
    any (constraining l.body) (expand (rules_at l.rules l.table))
    ≡ any (constraining l.body) (expand (map rule_at (starts_at l.rule-iterator.left l.rule-iterator.words.now)))
