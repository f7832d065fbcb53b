use mathlib.Core.List.{[]}
use native.Mathlib.Omega.{arith}
use Rattle.aspif.proofs.Used.{Passed, passed_on, used-within}
use Rattle.aspif.proofs.tables.words_used.Goals as goal

pub overflow_add-used : goal.overflow_add-used
overflow_add-used c =
    let p = passed_on c.args.table.now c.args.rules c.loop-rule.used c.in-Some.rule.words.now c.in-Some.ensures.steps c.in-Some.rule.sound c.loop-rule.invariant in
    let w = used-within c.args.table.now c.args.rules c.requires in
    record { fits = omega (arith, p, w, c.size-used.ensures.size.0) }

pub loop-rule-preserved : goal.loop-rule-preserved
loop-rule-preserved c = rw c.size-used.ensures.size.0 (passed_on c.args.table.now c.args.rules c.loop-rule.used c.in-Some.rule.words.now c.in-Some.ensures.steps c.in-Some.rule.sound c.loop-rule.invariant)

pub returns : goal.returns
returns c =
    let e : Passed c.args.table.now c.args.rules c.loop-rule.used [] = rw c.in-None.ensures.steps.0 at c.loop-rule.invariant in
    let w = used-within c.args.table.now c.args.rules c.requires in
    record { used = (omega (arith, e), omega (arith, e, w)) }
