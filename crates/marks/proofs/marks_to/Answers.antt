use native.Mathlib.Omega.{arith}
use Rattle.marks.proofs.Sets.{found_none, found_all, marks_next}
use Rattle.marks.proofs.marks_to.Goals as goal

pub loop-v-init : goal.loop-v-init
loop-v-init c = found_all (found_none _)

pub loop-v-preserved : goal.loop-v-preserved
loop-v-preserved c = rw c.mark.ensures.marks (marks_next _ (omega arith) c.loop-v.invariant)
