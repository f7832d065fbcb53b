-- The number is the value of the bytes from i on.
use mathlib.Core.Path.{◌≡◌}
use mathlib.Core.List.{map}
use Prim.Native.Nat.{◌<◌}
use lib.ListN.{drop}
use Rattle.packets.specs.Bytes.{value, flip_if}
use Rattle.packets.proofs.numbers.value_of.Given as goal

abbrev pub invariant-loop-i : goal.invariant-loop-i
invariant-loop-i l = (l.n ≡ value (map (flip_if l.negative) (drop l.i l.bytes))) × (l.n < 4294967296)
