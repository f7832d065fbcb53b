use mathlib.Core.Path.{◌≡◌, sym, ap, ◌∙◌}
use mathlib.Core.Logic.{inl}
use native.Mathlib.Omega.{arith}
use Rattle.words.specs.Lists.{any}
use Rattle.words.specs.Literals.{same_list}
use Rattle.aspif.specs.Rules.{expand_rule, expand}
use Rattle.aspif.specs.Tables.{rule_at, starts_at}
use Rattle.aspif.proofs.Cursors.{starts-length, rules_from_starts}
use Rattle.names.proofs.Asked.{any-bodies}
use Rattle.names.proofs.ByRule.{course-start, no-plain-rules, Turn, turn, one_passes, none_passes}
use Rattle.names.proofs.queries.body_name.Goals as goal
use Rattle.names.proofs.queries.body_name.Goals.{After-has_body}
use Rattle.names.proofs.queries.body_name.Invariants.{with}

-- the rule at hand
at : (c : After-has_body)
    → (let a = c.args in
    let after = c.next.new.self.iter in
    Turn a.table.now a.rules a.names.now a.names.now c.loop-k.k-iterator.count c.in-Some.rule.words.now (starts_at after.left after.words.now))
at c = turn c.loop-k.invariant.0 c.in-Some.ensures.steps.0

pub loop-k-init-derived : goal.loop-k-init-derived
loop-k-init-derived c =
    let s = c.ranges.rules.fits in
    let n = starts-length c.rules_in.result.left c.rules_in.result.words.now in
    rw (c.into_iter-k-iterator.ensures.into_iter_gives, c.enumerate-k-items.ensures.source, c.enumerate-k-items.ensures.count) ((tt, tt, inl (omega (arith, n, c.rules_in.ensures.start.1, s))), tt)

pub loop-k-init : goal.loop-k-init
loop-k-init c =
    let a = c.args in
    rw (c.into_iter-k-iterator.ensures.into_iter_gives, c.enumerate-k-items.ensures.source, c.enumerate-k-items.ensures.count, c.rules_in.ensures.start.0, c.rules_in.ensures.start.1)
    (course-start a.table.now a.rules a.names.now, ap (λ rs. any (with a.body.now) (expand rs)) (rules_from_starts a.rules a.table.now))

-- what the call tells of the rule
tells : (c : After-has_body) → any (with c.args.body.now) (expand_rule (rule_at c.in-Some.rule.words.now)) ≡ c.has_body.result
tells c = any-bodies (rule_at c.in-Some.rule.words.now) (same_list c.args.body.now) ∙ sym c.has_body.ensures

pub name_at-requires : goal.name_at-requires
name_at-requires c =
    sym (any-bodies (rule_at c.in-Some.rule.words.now) (same_list c.args.body.now)) ∙ tells (goal.at.name_at-requires c).After-has_body ∙ c.if-has_body.true

pub returns-then-has_body : goal.returns-then-has_body
returns-then-has_body c =
    let d = (goal.at.returns-then-has_body c).After-has_body in
    let here = one_passes c.in-Some.ensures.steps.0 (with c.args.body.now) (tells d ∙ c.if-has_body.true) in
    λ ws H. rw (← H.are) (λ called K.
    rw (c.loop-k.invariant.1 ∙ here)
    (c.from.ensures ∙ c.name_at.ensures called (λ w. K.by_name ((at d).weighted w)) (rw c.in-Some.ensures.steps.1 ((at d).kept called K.by_rule))))

pub loop-k-preserved : goal.loop-k-preserved
loop-k-preserved c =
    let d = (goal.at.loop-k-preserved c).After-has_body in
    rw c.in-Some.ensures.steps.2
    ((at d).next, c.loop-k.invariant.1 ∙ none_passes c.in-Some.ensures.steps.0 (with c.args.body.now) (tells d ∙ c.if-has_body.false))

pub returns : goal.returns
returns c = λ ws H. rw (← H.are) (λ called K. rw (c.loop-k.invariant.1, no-plain-rules c.in-None.ensures.steps.0.0))

pub bounds-names-k : goal.bounds-names-k
bounds-names-k c = omega (arith, (at (goal.at.bounds-names-k c).After-has_body).below, c.in-Some.ensures.steps.1, c.requires.program.1)
