use mathlib.Core.Path.{◌≡◌}
use mathlib.Core.List.{List, map}
use Prim.Native.Nat.{ℕ}
use lib.IntN.{ℤ}
use Rattle.words.specs.Lists.{any}
use Rattle.aspif.specs.Rules.{expand}
use Rattle.aspif.specs.Tables.{rule_at, rules_at, starts_at}
use Rattle.names.specs.Queries.{Kept, completing}
use Rattle.names.proofs.ByRule.{Course}
use Rattle.names.proofs.queries.is_completed.Given as goal

abbrev pub invariant-loop-k : goal.invariant-loop-k
invariant-loop-k l =
    let starts = starts_at l.k-iterator.iter.left l.k-iterator.iter.words.now in
    Course l.table l.rules l.names l.names l.k-iterator.count starts
    × ((called : List ℤ → ℕ) → Kept l.names l.bodies called (rules_at l.rules l.table)
    → any (completing called l.heads l.name) (expand (rules_at l.rules l.table)) ≡ any (completing called l.heads l.name) (expand (map rule_at starts)))
