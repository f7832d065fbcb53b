use Rattle.totalizer.proofs.Emitted.{emits_none}
use Rattle.joins.proofs.Joins.{joins-none, joins-more}
use Rattle.joins.proofs.joining.emit_node.Goals as goal

pub loop-k-init : goal.loop-k-init
loop-k-init c =
    let a = c.args in
    rw (joins-none a.atom a.first a.left.now a.second a.right.now) (emits_none _ a.place c.requires.place)

pub loop-k-preserved : goal.loop-k-preserved
loop-k-preserved c =
    let a = c.args in
    let l = c.loop-k in
    joins-more a.atom a.levels.now a.first a.left.now a.second a.right.now l.k c.loop-k-test.true l.invariant c.emit_level-here.ensures
