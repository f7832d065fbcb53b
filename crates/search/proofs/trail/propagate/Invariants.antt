use Prim.Native.Nat.{◌-◌, ◌≤◌}
use Rattle.words.specs.Limits.{entries}
use Rattle.search.proofs.trail.propagate.Given as goal

abbrev pub invariant-loop-done : goal.invariant-loop-done
invariant-loop-done l = l.n ≤ entries

abbrev pub decreases-loop-done : goal.decreases-loop-done
decreases-loop-done l = entries - l.done
