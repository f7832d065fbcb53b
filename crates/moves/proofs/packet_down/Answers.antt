-- `moves::packet_down` meets its contract.
-- Assumes nothing.
use Rattle.packets.specs.Packets.{down}
use Rattle.moves.proofs.packet_down.Goals as goal

pub returns : goal.returns
unfolding down
returns c = c.move_packet.ensures
