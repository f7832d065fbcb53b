use Prim.Native.Nat.{◌≤◌}
use Rattle.words.specs.Limits.{entries}
use Rattle.search.proofs.paths.gather_block.Given as goal

abbrev pub invariant-loop-i : goal.invariant-loop-i
invariant-loop-i l = l.first ≤ entries
