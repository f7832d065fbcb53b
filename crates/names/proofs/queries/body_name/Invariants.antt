use mathlib.Core.Path.{◌≡◌}
use mathlib.Core.Bool.{Bool}
use mathlib.Core.List.{List, map}
use lib.IntN.{ℤ}
use Rattle.words.specs.Lists.{any}
use Rattle.words.specs.Literals.{same_list}
use Rattle.aspif.specs.Rules.{Rule, expand}
use Rattle.aspif.specs.Tables.{rule_at, rules_at, starts_at}
use Rattle.names.proofs.ByRule.{Course}
use Rattle.names.proofs.queries.body_name.Given as goal

-- the plain rules with the body
abbrev pub with : List ℤ → Rule → Bool
with body r = same_list body r.body

abbrev pub invariant-loop-k : goal.invariant-loop-k
invariant-loop-k l =
    let starts = starts_at l.k-iterator.iter.left l.k-iterator.iter.words.now in
    Course l.table l.rules l.names l.names l.k-iterator.count starts
    × (any (with l.body) (expand (rules_at l.rules l.table)) ≡ any (with l.body) (expand (map rule_at starts)))
