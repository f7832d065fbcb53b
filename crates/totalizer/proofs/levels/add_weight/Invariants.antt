use Prim.Native.Nat.{◌+◌, ◌*◌, ◌-◌}
use lib.ListN.{length}
use Rattle.totalizer.proofs.Merging.{Standing}
use Rattle.totalizer.proofs.levels.add_weight.Given as goal

abbrev pub invariant-loop-i : goal.invariant-loop-i
invariant-loop-i l = Standing l.bound l.weight l.sums l.initial.to l.to l.i l.j l.k

abbrev pub decreases-loop-i : goal.decreases-loop-i
decreases-loop-i l = 2 * length l.sums - (l.i + l.j)
