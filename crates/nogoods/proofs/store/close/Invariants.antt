use Prim.Native.Nat.{◌-◌}
use Rattle.nogoods.proofs.Closing.{Closing}
use Rattle.nogoods.proofs.store.close.Given as goal

abbrev pub invariant-loop-from : goal.invariant-loop-from
invariant-loop-from l = Closing l.initial.store l.used l.store l.to l.from

abbrev pub decreases-loop-from : goal.decreases-loop-from
decreases-loop-from l = l.used - l.from
