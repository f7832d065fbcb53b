use Prim.Native.Nat.{◌-◌}
use Rattle.packets.specs.Bytes.{numbers_from}
use Rattle.packets.proofs.RulesRead.{Filling}
use Rattle.packets.proofs.reader.read_rules.Given as goal

abbrev pub invariant-loop-i : goal.invariant-loop-i
invariant-loop-i l = Filling l.version (numbers_from 4 l.count l.bytes) l.initial.table l.table l.rules l.words l.top l.plain l.i

abbrev pub decreases-loop-i : goal.decreases-loop-i
decreases-loop-i l = l.count - l.i
