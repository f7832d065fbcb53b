use Prim.Native.Nat.{◌≤◌}
use Rattle.words.specs.Limits.{entries}
use Rattle.propagation.specs.Propagate.{BlankFrom, Grows}
use Rattle.propagation.proofs.replay.replay.Given as goal

abbrev pub invariant-loop-k : goal.invariant-loop-k
invariant-loop-k l = Grows l.nogoods l.initial.assignment l.assignment × ((l.end ≤ entries) × BlankFrom l.end l.assignment)
