use Prim.Native.Nat.{◌-◌}
use lib.ListN.{length}
use Rattle.joins.proofs.Chained.{Turned}
use Rattle.joins.proofs.chains.emit_rest.Given as goal

abbrev pub invariant-loop-from : goal.invariant-loop-from
invariant-loop-from l = Turned l.group l.bound l.pairs l.initial.node.first l.initial.output l.initial.inside l.initial.outside l.initial.spare l.initial.left l.initial.right l.initial.next l.initial.node l.initial.from l.output l.inside l.outside l.spare l.left l.right l.next l.node l.from

abbrev pub decreases-loop-from : goal.decreases-loop-from
decreases-loop-from l = length l.pairs - l.from
