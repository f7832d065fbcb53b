use Rattle.words.proofs.Places.{in-at}
use Rattle.loops.proofs.edges.mark_heads.Goals as goal

pub mark_edge-requires : goal.mark_edge-requires
mark_edge-requires c =
    let l = c.loop-h in
    (l.invariant.long, c.requires.1, c.requires.2, rw c.from.ensures (c.requires.3 _ (in-at 0 c.args.heads.now l.h-index c.loop-h-test.true)))
