-- `notation::stepping::hand_out`: the reader stands within the text, and fewer bytes are left after each line. Assumes nothing.
use Rattle.std.proofs.Common.{length, ◌-◌, ◌≤◌}
use Rattle.notation.proofs.stepping.hand_out.Given as goal

abbrev pub invariant-loop : goal.invariant-loop
invariant-loop g l = l.reader.at ≤ length l.reader.text.now

abbrev pub decreases-loop : goal.decreases-loop
decreases-loop g l = length l.reader.text.now - l.reader.at
