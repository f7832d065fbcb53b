use mathlib.Core.Path.{refl}
use Rattle.std.proofs.Common.{add-one}
use Rattle.marks.specs.Marks.{same_marks}
use Rattle.marks.proofs.is_same_set.Goals as goal

pub loop-v-init : goal.loop-v-init
unfolding same_marks
loop-v-init c = refl

pub loop-v-preserved : goal.loop-v-preserved
unfolding same_marks
loop-v-preserved c = rw (c.agrees_at-same.ensures, c.loop-v.invariant, add-one)
