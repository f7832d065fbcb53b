use Rattle.marks.proofs.Sets.{found_none}
use Rattle.marks.proofs.marks_of.Goals as goal

pub loop-x-init : goal.loop-x-init
loop-x-init c = found_none _
