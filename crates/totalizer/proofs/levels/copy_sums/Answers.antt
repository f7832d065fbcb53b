use native.Mathlib.Omega.{arith}
use lib.ListN.{length-set}
use Rattle.words.proofs.Laws.{copy_more}
use Rattle.totalizer.proofs.levels.copy_sums.Goals as goal

pub loop-i-preserved : goal.loop-i-preserved
loop-i-preserved c =
    let l = c.loop-i in
    let s = c.args.source.now in (
      simp length-set l.invariant.0,
      rw l.invariant.1 (copy_more s _ l.i 0 (omega arith) (omega (arith, c.requires))),
    )
