use mathlib.Core.Path.{◌≡◌}
use Prim.Native.Nat.{◌-◌}
use lib.ListN.{length}
use Rattle.words.specs.Limits.{most_numbers}
use Rattle.packets.proofs.Writes.{Stepping}
use Rattle.packets.proofs.writer.put_lines.Given as goal

abbrev pub invariant-lines : goal.invariant-lines
invariant-lines l = Stepping l.text l.initial.buffer l.buffer l.at l.position l.steps l.top l.end × (length l.numbers ≡ most_numbers) × (length l.sorted ≡ most_numbers)

abbrev pub decreases-lines : goal.decreases-lines
decreases-lines l = length l.text - l.position
