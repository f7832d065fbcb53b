use Rattle.totalizer.proofs.Emitted.{emits_none}
use Rattle.joins.proofs.Joins.{share-none, share-one}
use Rattle.joins.proofs.joining.emit_share.Goals as goal

pub returns-in-None : goal.returns-in-None
returns-in-None c =
    let a = c.args in
    rw (share-none a.level a.left.now a.right.now a.i c.in-None.ensures.partner a.atom a.first a.second) (emits_none _ a.place c.requires.place)

pub returns-in-Some : goal.returns-in-Some
returns-in-Some c =
    let a = c.args in
    rw (share-one a.level a.left.now a.right.now a.i _ c.in-Some.ensures.partner a.atom a.first a.second) c.emit_join.ensures
