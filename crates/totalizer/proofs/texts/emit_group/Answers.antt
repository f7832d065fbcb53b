use Rattle.weights.specs.Weights.{paired}
use Rattle.totalizer.proofs.Emitted.{emits_none}
use Rattle.totalizer.proofs.Groups.{group-more}
use Rattle.totalizer.proofs.texts.emit_group.Goals as goal

pub loop-i-init : goal.loop-i-init
loop-i-init c = emits_none _ c.args.place c.requires.place

pub loop-i-preserved : goal.loop-i-preserved
loop-i-preserved c =
    let a = c.args in
    let l = c.loop-i in
    group-more a.atom (paired a.pairs.now) a.levels.now l.i c.loop-i-test.true l.invariant c.emit_sum-here.ensures
