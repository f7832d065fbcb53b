-- `moves::packet_up` meets its contract.
-- Assumes nothing.
use mathlib.Core.Path.{sym}
use lib.ListN.{length}
use Rattle.moves.proofs.Answers.{goes-up}
use Rattle.moves.proofs.packet_up.Goals as goal

pub returns : goal.returns
returns c =
    let a = c.args in
    rw (sym (goes-up a.packet.now (length a.output.now))) c.move_packet.ensures
