use Prim.Native.Nat.{◌-◌}
use Rattle.packets.proofs.Decoded.{Going}
use Rattle.packets.proofs.reader.read_steps.Given as goal

abbrev pub invariant-loop : goal.invariant-loop
invariant-loop l = Going l.bytes l.count l.initial.proof l.proof (l.count - l.counter) l.i l.end l.top
