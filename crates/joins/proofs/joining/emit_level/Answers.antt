use native.Mathlib.Omega.{arith}
use Rattle.totalizer.proofs.Emitted.{emits_none, emits-full}
use Rattle.joins.proofs.Joins.{share-more, level-rules}
use Rattle.joins.proofs.joining.emit_level.Goals as goal

pub returns-then-place-gt-MOST_RULES : goal.returns-then-place-gt-MOST_RULES
returns-then-place-gt-MOST_RULES c = emits-full _ c.args.place c.requires.place _ c.if-place-gt-MOST_RULES.true

pub loop-i-init : goal.loop-i-init
loop-i-init c = emits_none _ c.args.place c.requires.place

pub loop-i-preserved : goal.loop-i-preserved
loop-i-preserved c =
    let l = c.loop-i in
    share-more c.args.first c.args.left.now l.i (omega (arith, c.loop-i-test.true)) _ l.invariant c.emit_share-here.ensures

pub returns : goal.returns
returns c =
    let a = c.args in
    let l = c.loop-i in
    rw (level-rules a.atom a.level a.first a.left.now a.second a.right.now l.i (omega arith)) at l.invariant
