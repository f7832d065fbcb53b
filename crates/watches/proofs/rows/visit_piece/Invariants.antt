use Prim.Native.Nat.{◌≤◌}
use Rattle.words.specs.Limits.{entries}
use Rattle.watches.proofs.rows.visit_piece.Given as goal

abbrev pub invariant-loop-i : goal.invariant-loop-i
invariant-loop-i l = l.n ≤ entries
