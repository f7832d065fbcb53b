use mathlib.Core.Path.{refl}
use native.Mathlib.Omega.{arith}
use Rattle.totalizer.proofs.Below.{keeping-on}
use Rattle.totalizer.proofs.levels.useful_levels.Goals as goal

pub loop-i-init : goal.loop-i-init
loop-i-init c = record { fewer = omega arith; kept = refl; long = refl }

pub loop-i-preserved : goal.loop-i-preserved
loop-i-preserved c = keeping-on c.loop-i.invariant c.loop-i-test.true c.requires.room c.is_useful.ensures c.after_if-k.ensures
