use mathlib.Core.Path.{◌≡◌, sym, ap, ◌∙◌}
use mathlib.Core.Logic.{inl}
use mathlib.Core.List.{List}
use Prim.Native.Nat.{ℕ}
use native.Mathlib.Omega.{arith}
use lib.IntN.{ℤ}
use Rattle.words.specs.Lists.{any}
use Rattle.aspif.specs.Rules.{expand_rule, expand}
use Rattle.aspif.specs.Tables.{rule_at, rules_at}
use Rattle.aspif.proofs.Cursors.{starts-length, rules_from_starts}
use Rattle.names.specs.Queries.{Kept, completing}
use Rattle.names.proofs.ByRule.{course-start, no-plain-rules, turn, one_passes, none_passes}
use Rattle.names.proofs.queries.is_completed.Goals as goal
use Rattle.names.proofs.queries.is_completed.Goals.{After-completes}

pub loop-k-init-derived : goal.loop-k-init-derived
loop-k-init-derived c =
    let s = c.ranges.rules.fits in
    let n = starts-length c.rules_in.result.left c.rules_in.result.words.now in
    rw (c.into_iter-k-iterator.ensures.into_iter_gives, c.enumerate-k-items.ensures.source, c.enumerate-k-items.ensures.count) ((tt, tt, inl (omega (arith, n, c.rules_in.ensures.start.1, s))), tt)

pub loop-k-init : goal.loop-k-init
loop-k-init c =
    let a = c.args in
    rw (c.into_iter-k-iterator.ensures.into_iter_gives, c.enumerate-k-items.ensures.source, c.enumerate-k-items.ensures.count, c.rules_in.ensures.start.0, c.rules_in.ensures.start.1)
    (course-start a.table.now a.rules a.names.now, λ called K. ap (λ rs. any (completing called a.heads.now a.name) (expand rs)) (rules_from_starts a.rules a.table.now))

-- what the call tells of the rule
tells : (c : After-completes) (called : List ℤ → ℕ)
    → (let a = c.args in
    Kept a.names.now a.bodies.now called (rules_at a.rules a.table.now)
    → any (completing called a.heads.now a.name) (expand_rule (rule_at c.in-Some.rule.words.now)) ≡ c.completes.result)
tells c called K =
    let a = c.args in
    let t = turn c.loop-k.invariant.0 c.in-Some.ensures.steps.0 in
    sym (c.completes.ensures a.bodies.now called (λ w. K.by_name (t.weighted w)) c.body_of-recorded.ensures c.requires.name.0 (rw c.in-Some.ensures.steps.1 (t.kept called K.by_rule)))

pub completes-requires : goal.completes-requires
completes-requires c = record { row = (c.body_of-recorded.auto.row, (c.args.bodies.now, c.body_of-recorded.ensures)) }

pub returns-then-completes : goal.returns-then-completes
returns-then-completes c =
    let d = (goal.at.returns-then-completes c).After-completes in
    λ ws H. rw (← H.are) (λ called K. sym (c.loop-k.invariant.1 called K ∙ one_passes c.in-Some.ensures.steps.0 _ (tells d called K ∙ c.if-completes.true)))

pub loop-k-preserved : goal.loop-k-preserved
loop-k-preserved c =
    let d = (goal.at.loop-k-preserved c).After-completes in
    rw c.in-Some.ensures.steps.2 (
      (turn c.loop-k.invariant.0 c.in-Some.ensures.steps.0).next,
      λ called K. c.loop-k.invariant.1 called K ∙ none_passes c.in-Some.ensures.steps.0 _ (tells d called K ∙ c.if-completes.false),
    )

pub returns : goal.returns
returns c = λ ws H. rw (← H.are) (λ called K. rw (c.loop-k.invariant.1 called K, no-plain-rules c.in-None.ensures.steps.0.0))

pub body_of-recorded-requires : goal.body_of-recorded-requires
body_of-recorded-requires c = (c.requires.name.1, omega arith)

pub bounds-names-k : goal.bounds-names-k
bounds-names-k c = omega (arith, (turn c.loop-k.invariant.0 c.in-Some.ensures.steps.0).below, c.in-Some.ensures.steps.1, c.requires.program.1)
