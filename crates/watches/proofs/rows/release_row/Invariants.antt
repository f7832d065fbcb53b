use Prim.Native.Nat.{◌≤◌}
use Rattle.std.specs.Prelude.{IfSome}
use Rattle.watches.specs.Small.{largest_cell}
use Rattle.watches.proofs.rows.release_row.Given as goal

abbrev pub invariant-loop : goal.invariant-loop
invariant-loop l = IfSome l.next (λ piece. piece ≤ largest_cell) × (l.held ≤ 63)
