use mathlib.Core.Path.{◌≡◌}
use mathlib.Core.List.{◌++◌}
use lib.ListN.{length, take, drop}
use Rattle.weights.specs.Weights.{literals, paired}
use Rattle.aspif.proofs.rules.copy_literals.Given as goal

abbrev pub invariant-loop-i : goal.invariant-loop-i
invariant-loop-i l = (length l.row ≡ length l.initial.row) × (l.row ≡ take l.i (literals (paired l.pairs)) ++ drop l.i l.initial.row)
