use lib.ListN.{take}
use Rattle.totalizer.specs.Emitting.{Emits}
use Rattle.joins.specs.Joining.{node_joins}
use Rattle.joins.proofs.joining.emit_node.Given as goal

abbrev pub invariant-loop-k : goal.invariant-loop-k
invariant-loop-k l = Emits (node_joins l.atom (take l.k l.levels) l.first l.left l.second l.right) l.initial.output l.output l.initial.here l.here
