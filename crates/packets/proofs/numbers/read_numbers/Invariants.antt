-- After i turns the first i numbers stand in the row.
use mathlib.Core.Path.{◌≡◌}
use mathlib.Core.List.{◌++◌}
use lib.ListN.{length, take, drop}
use Rattle.packets.specs.Bytes.{numbers_from}
use Rattle.packets.proofs.numbers.read_numbers.Given as goal

abbrev pub invariant-loop-i : goal.invariant-loop-i
invariant-loop-i l = (l.row ≡ take l.i (numbers_from l.k (length l.initial.row) l.bytes) ++ drop l.i l.initial.row) × (length l.row ≡ length l.initial.row)
