-- `exports::aspdrupe_packet_up` meets its contract: the answer that is told is that of the move.
-- Assumes nothing.
use Rattle.exports.proofs.Telling.{move-told}
use Rattle.exports.proofs.aspdrupe_packet_up.Goals as goal

pub returns : goal.returns
returns c = move-told c.packet_up-moved.ensures c.tell_writing.ensures
