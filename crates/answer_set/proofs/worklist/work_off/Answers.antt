use native.Mathlib.Omega.{arith}
use Rattle.answer_set.specs.Private.{nothing}
use Rattle.answer_set.proofs.Giving.{given-on}
use Rattle.answer_set.proofs.worklist.work_off.Goals as goal

pub loop-init : goal.loop-init
loop-init c = (omega (arith, c.requires.rules_le_most_rules), nothing)

pub loop-preserved : goal.loop-preserved
loop-preserved c = (c.look-entry.ensures.upper_bound, given-on c.loop.invariant.1 c.look-entry.ensures.given)
