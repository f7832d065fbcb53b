-- After i turns the first i numbers are put.
use Prim.Native.Nat.{◌+◌, ◌*◌, ◌≤◌}
use lib.ListN.{take}
use Rattle.text.specs.Decimals.{spaced}
use Rattle.text.specs.Writing.{Put}
use Rattle.drupe.proofs.writing.put_numbers.Given as goal

abbrev pub invariant-loop-n : goal.invariant-loop-n
invariant-loop-n l = Put (spaced (take l.n-index l.numbers)) l.initial.output l.output l.at l.end × (l.end ≤ l.at + 22 * l.n-index)
