use Rattle.sums.specs.Levels.{is_useful}
use Rattle.totalizer.proofs.Below.{Keeping}
use Rattle.totalizer.proofs.levels.useful_levels.Given as goal

abbrev pub invariant-loop-i : goal.invariant-loop-i
invariant-loop-i l = Keeping (is_useful l.bound l.outside l.inside) l.inside l.initial.levels l.levels l.i l.k
