use mathlib.Core.Path.{◌≡◌}
use mathlib.Core.List.{List, map}
use Prim.Native.Nat.{ℕ}
use lib.IntN.{ℤ}
use lib.ListN.{length}
use Rattle.words.specs.Limits.{entries}
use Rattle.aspif.specs.Rules.{expand}
use Rattle.aspif.specs.Tables.{rule_at, rules_at, starts_at}
use Rattle.marks.proofs.Sets.{MarkedSoFar}
use Rattle.names.specs.Queries.{Kept, asked_names}
use Rattle.names.proofs.ByRule.{Course}
use Rattle.names.proofs.queries.mark_names.Given as goal

abbrev pub invariant-loop-k : goal.invariant-loop-k
invariant-loop-k l =
    let starts = starts_at l.k-iterator.iter.left l.k-iterator.iter.words.now in
    Course l.table l.rules l.names l.names l.k-iterator.count starts
    × (length l.found ≡ entries)
    × ((called : List ℤ → ℕ) → Kept l.names l.bodies called (rules_at l.rules l.table)
    → MarkedSoFar l.found (asked_names l.query l.inside called (expand (map rule_at starts))) (asked_names l.query l.inside called (expand (rules_at l.rules l.table))))
