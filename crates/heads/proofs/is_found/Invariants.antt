use Prim.Native.Nat.{◌≤◌}
use Rattle.heads.proofs.is_found.Given as goal

abbrev pub invariant-loop-p : goal.invariant-loop-p
invariant-loop-p l = l.p ≤ l.rules

abbrev pub decreases-loop-p : goal.decreases-loop-p
decreases-loop-p l = l.p
