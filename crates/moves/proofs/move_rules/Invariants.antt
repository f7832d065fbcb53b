use Prim.Native.Nat.{◌-◌}
use Rattle.packets.specs.Bytes.{numbers_from}
use Rattle.moves.proofs.Moving.{Moving}
use Rattle.moves.proofs.move_rules.Given as goal

abbrev pub invariant-loop-i : goal.invariant-loop-i
invariant-loop-i l = Moving l.from l.to (numbers_from 4 l.count l.bytes) l.initial.output l.output l.i l.end

abbrev pub decreases-loop-i : goal.decreases-loop-i
decreases-loop-i l = l.count - l.i
