use mathlib.Core.Path.{◌≡◌}
use mathlib.Core.Bool.{cond}
use mathlib.Core.List.{List, ◌++◌, map}
use Prim.Native.Nat.{ℕ}
use lib.IntN.{ℤ}
use lib.ListN.{length, take}
use Rattle.words.specs.Literals.{same_list}
use Rattle.aspif.specs.Rules.{InputRule}
use Rattle.aspif.specs.Tables.{rule_at, rules_at, starts_at}
use Rattle.names.specs.Queries.{entry}
use Rattle.names.proofs.ByRule.{ByRule, Course}
use Rattle.names.proofs.queries.enter_rules.Given as goal

-- what is to be kept of a rule
abbrev pub new : List ℤ → ℕ → (List ℤ → ℕ) → InputRule → ℕ
new body name called r = entry (λ L. cond (same_list body L) name (called L)) r.body

abbrev pub invariant-loop-k : goal.invariant-loop-k
invariant-loop-k l =
    let starts = starts_at l.k-iterator.iter.left l.k-iterator.iter.words.now in
    Course l.table l.rules l.initial.names l.names l.k-iterator.count starts
    × (length l.names ≡ length l.initial.names)
    × ((called : List ℤ → ℕ) → ByRule called (rules_at l.rules l.table) l.initial.names
    → take l.k-iterator.count l.names ++ map (new l.body l.name called) (map rule_at starts) ≡ map (new l.body l.name called) (rules_at l.rules l.table))
