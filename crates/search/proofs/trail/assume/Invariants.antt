use Prim.Native.Nat.{◌≤◌}
use Rattle.words.specs.Limits.{entries}
use Rattle.search.proofs.trail.assume.Given as goal

abbrev pub invariant-loop-literal : goal.invariant-loop-literal
invariant-loop-literal l = l.n ≤ entries
