-- After i turns the first i bytes are put.
use mathlib.Core.List.{map}
use Prim.Native.Nat.{◌+◌, ◌-◌}
use Rattle.packets.specs.Bytes.{little, flip_if}
use Rattle.packets.proofs.Writes.{Going}
use Rattle.packets.proofs.writer.put_little.Given as goal

abbrev pub invariant-loop-i : goal.invariant-loop-i
invariant-loop-i l = Going (map (flip_if l.negative) (little l.k l.number)) (map (flip_if l.negative) (little (l.k - l.i) l.left)) l.initial.buffer l.buffer l.at (l.at + l.i)
