use Prim.Native.Nat.{◌≤◌}
use Rattle.std.specs.Prelude.{IfSome}
use Rattle.watches.specs.Small.{largest_cell}
use Rattle.words.specs.Limits.{entries}
use Rattle.watches.proofs.chains.visit_chain.Given as goal

abbrev pub invariant-loop : goal.invariant-loop
invariant-loop l =
    (l.n ≤ entries) × IfSome l.last (λ node. node ≤ largest_cell) × IfSome l.node (λ node. node ≤ largest_cell)
