use Prim.Native.Nat.{◌+◌, ◌≤◌}
use Rattle.propagation.specs.Propagate.{free, Grows}
use Rattle.propagation.proofs.settle.Given as goal

abbrev pub invariant-loop-round : goal.invariant-loop-round
invariant-loop-round l = Grows l.nogoods l.initial.assignment l.assignment × (l.round + free l.assignment ≤ free l.initial.assignment)
