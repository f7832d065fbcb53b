use mathlib.Core.List.{map}
use Prim.Native.Nat.{◌≤◌}
use lib.ListN.{length, drop}
use Rattle.words.specs.Lists.{any}
use Rattle.aspif.specs.Tables.{rule_at, rules_at, starts_at}
use Rattle.loops.specs.Relevance.{Relevant}
use Rattle.loops.specs.Edges.{rule_edge}
use Rattle.loops.proofs.EdgeMarks.{Filling}
use Rattle.loops.proofs.edges.scan.Given as goal

abbrev pub invariant-loop-rule : goal.invariant-loop-rule
invariant-loop-rule l =
    let rest = map rule_at (starts_at l.rule-iterator.left l.rule-iterator.words.now) in
    (l.at ≤ length l.relevant)
    × Relevant (drop l.at l.relevant) rest
    × Filling l.edges (λ a b. any (rule_edge l.places a b) rest) (λ a b. any (rule_edge l.places a b) (rules_at l.rules l.table))
