use mathlib.Core.Path.{refl, sym, ap, ◌∙◌}
use mathlib.Core.Logic.{inl}
use mathlib.Core.List.{map}
use native.Mathlib.Omega.{arith}
use lib.ListN.{length-set}
use Rattle.aspif.proofs.Cursors.{starts-length, rules_from_starts}
use Rattle.names.proofs.ByRule.{course-start, course-set, turn, entered_on, entered_all}
use Rattle.names.proofs.queries.enter_rules.Goals as goal
use Rattle.names.proofs.queries.enter_rules.Invariants.{new}

pub loop-k-init-derived : goal.loop-k-init-derived
loop-k-init-derived c =
    let s = c.ranges.rules.fits in
    let n = starts-length c.rules_in.result.left c.rules_in.result.words.now in
    rw (c.into_iter-k-iterator.ensures.into_iter_gives, c.enumerate-k-items.ensures.source, c.enumerate-k-items.ensures.count) ((tt, tt, inl (omega (arith, n, c.rules_in.ensures.start.1, s))), tt)

pub loop-k-init : goal.loop-k-init
loop-k-init c =
    let a = c.args in
    rw (c.into_iter-k-iterator.ensures.into_iter_gives, c.enumerate-k-items.ensures.source, c.enumerate-k-items.ensures.count, c.rules_in.ensures.start.0, c.rules_in.ensures.start.1)
    (course-start a.table.now a.rules a.names.now, refl, λ called e. ap (map (new a.body.now a.name called)) (sym (rules_from_starts a.rules a.table.now)))

pub loop-k-preserved : goal.loop-k-preserved
loop-k-preserved c =
    let l = c.loop-k in
    let e = c.in-Some.ensures.steps in
    let t = turn l.invariant.0 e.0 in
    let k = l.k-iterator.count in
    rw (e.2, e.1) (
      course-set k c.name_for.result t.next,
      length-set l.names k c.name_for.result ∙ l.invariant.1,
      λ called h. sym (entered_on (new c.args.body.now c.args.name called) l.names e.0 (omega (arith, t.below, c.requires.program.1, l.invariant.1)) (c.name_for.ensures called (rw e.1 (t.kept called h)))) ∙ l.invariant.2 called h,
    )

pub returns : goal.returns
returns c =
    let l = c.loop-k in
    λ ws H. rw (← H.are) (λ called e. entered_all _ l.invariant.0 c.in-None.ensures.steps.0.0 (l.invariant.2 called e))

pub bounds-names-k : goal.bounds-names-k
bounds-names-k c =
    let l = c.loop-k in
    omega (arith, (turn l.invariant.0 c.in-Some.ensures.steps.0).below, c.in-Some.ensures.steps.1, c.requires.program.1, l.invariant.1)
