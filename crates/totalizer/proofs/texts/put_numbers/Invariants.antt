use Prim.Native.Nat.{◌+◌, ◌*◌, ◌≤◌}
use lib.ListN.{take}
use Rattle.text.specs.Decimals.{spaced}
use Rattle.text.specs.Writing.{Put}
use Rattle.totalizer.proofs.texts.put_numbers.Given as goal

abbrev pub invariant-loop-number : goal.invariant-loop-number
invariant-loop-number l = Put (spaced (take l.number-index l.numbers)) l.initial.output l.output l.at l.end × (l.end ≤ l.at + 22 * l.number-index)
