-- What is asked of the whole is asked of what is left.
use mathlib.Core.Path.{◌≡◌}
use Prim.Native.Nat.{◌≤◌, ◌-◌}
use lib.ListN.{length, drop}
use Rattle.packets.specs.Packets.{fills}
use Rattle.packets.proofs.reader.are_steps.Given as goal

abbrev pub invariant-loop : goal.invariant-loop
invariant-loop l = (l.at ≤ length l.bytes) × (fills l.count l.bytes ≡ fills (l.count - l.counter) (drop l.at l.bytes))
