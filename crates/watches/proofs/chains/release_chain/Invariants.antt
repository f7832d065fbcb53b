use Prim.Native.Nat.{◌≤◌}
use Rattle.std.specs.Prelude.{IfSome}
use Rattle.watches.specs.Small.{largest_cell}
use Rattle.watches.proofs.chains.release_chain.Given as goal

abbrev pub invariant-loop : goal.invariant-loop
invariant-loop l = IfSome l.last (λ node. node ≤ largest_cell) × IfSome l.node (λ node. node ≤ largest_cell)
