-- `notation::reading::expand`: fewer bytes are left after each piece. Assumes nothing.
use Rattle.std.proofs.Common.{length, ◌-◌}
use Rattle.notation.proofs.reading.expand.Given as goal

abbrev pub decreases-loop-at : goal.decreases-loop-at
decreases-loop-at l = length l.text - l.at
