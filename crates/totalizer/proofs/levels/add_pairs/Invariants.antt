use lib.ListN.{take}
use Rattle.totalizer.proofs.Adding.{Adding}
use Rattle.totalizer.proofs.levels.add_pairs.Given as goal

abbrev pub invariant-loop-left : goal.invariant-loop-left
invariant-loop-left l = Adding l.pairs l.bound (take l.n l.initial.sums) l.initial.sums l.initial.spare l.sums l.spare l.left l.count
