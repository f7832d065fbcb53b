use mathlib.Core.Path.{refl}
use mathlib.Core.List.{map}
use native.Mathlib.Omega.{arith}
use lib.ListN.{drop}
use Rattle.words.proofs.Parts.{tail_of}
use Rattle.weights.specs.Weights.{most_weighted}
use Rattle.aspif.specs.Tables.{rule_at, starts_at}
use Rattle.aspif.proofs.Cursors.{rules_from_starts}
use Rattle.loops.specs.Relevance.{RelevantRule, Relevant}
use Rattle.loops.proofs.EdgeMarks.{filling-none, filling-on, filled}
use Rattle.loops.proofs.Expanded.{relevant-on}
use Rattle.loops.proofs.edges.scan.Goals as goal
use Rattle.loops.proofs.edges.scan.Goals.{In-Some}

-- the entries of the rule at hand, and of those after it
relevant : (c : In-Some)
    → (let m = drop c.loop-rule.at c.args.relevant.now in
    let after = c.next.new.self in
    RelevantRule m (rule_at c.in-Some.rule.words.now) × Relevant (drop most_weighted m) (map rule_at (starts_at after.left after.words.now)))
relevant c = relevant-on (drop c.loop-rule.at c.args.relevant.now) (rule_at c.in-Some.rule.words.now) _ (rw c.in-Some.ensures.steps at c.loop-rule.invariant.1)

pub loop-rule-init : goal.loop-rule-init
loop-rule-init c =
    rw (c.into_iter-rule-iterator.ensures.into_iter_gives, c.rules_in-rule-items.ensures.start.0, c.rules_in-rule-items.ensures.start.1, ← rules_from_starts c.args.rules c.args.table.now)
    (omega arith, c.requires.program.1, filling-none _)

pub mark_rule-requires : goal.mark_rule-requires
mark_rule-requires c =
    rw (tail_of c.loop-rule.at c.args.relevant.now)
    (record { entries = (relevant (goal.at.mark_rule-requires c).In-Some).0; sizes = (c.loop-rule.invariant.2.long, c.requires.places) })

pub next_entries-at-requires : goal.next_entries-at-requires
next_entries-at-requires c = c.loop-rule.invariant.0

pub loop-rule-preserved : goal.loop-rule-preserved
loop-rule-preserved c =
    let q = c.next_entries-at.ensures in
    let r = relevant (goal.at.loop-rule-preserved c).In-Some in
    (q.0, rw q.1 r.1, filling-on (rw c.in-Some.ensures.steps at c.loop-rule.invariant.2) c.mark_rule.ensures (λ a b. refl))

pub returns : goal.returns
returns c = filled (rw c.in-None.ensures.steps.0 at c.loop-rule.invariant.2) (λ a b. refl)
