use Prim.Native.Nat.{◌≤◌}
use Rattle.std.specs.Prelude.{IfSome}
use Rattle.watches.specs.Small.{largest_cell}
use Rattle.words.specs.Limits.{entries}
use Rattle.watches.proofs.rows.visit_row.Given as goal

abbrev pub invariant-loop : goal.invariant-loop
invariant-loop l = (l.n ≤ entries) × IfSome l.next (λ piece. piece ≤ largest_cell) × (l.held ≤ 63)
