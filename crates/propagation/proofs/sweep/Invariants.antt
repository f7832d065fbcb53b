use Prim.Native.Nat.{◌-◌}
use lib.ListN.{length}
use Rattle.propagation.proofs.Sweeps.{Sweeping}
use Rattle.propagation.proofs.sweep.Given as goal

abbrev pub invariant-loop-i : goal.invariant-loop-i
invariant-loop-i l = Sweeping l.nogoods l.initial.assignment l.assignment l.changed l.i

abbrev pub decreases-loop-i : goal.decreases-loop-i
decreases-loop-i l = length l.nogoods - l.i
