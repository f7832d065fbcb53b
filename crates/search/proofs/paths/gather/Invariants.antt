use Prim.Native.Nat.{◌≤◌}
use Rattle.words.specs.Limits.{entries}
use Rattle.search.proofs.paths.gather.Given as goal

abbrev pub invariant-loop-block : goal.invariant-loop-block
invariant-loop-block l = l.first ≤ entries
