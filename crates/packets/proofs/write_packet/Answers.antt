-- `packets::write_packet` meets its contract.
-- Assumes nothing.
use lib.ListN.{length}
use Rattle.words.proofs.Laws.{zeros}
use Rattle.packets.specs.Packets.{version_of}
use Rattle.packets.specs.declared.Version.TheVariants.{One, Two}
use Rattle.packets.proofs.Given.{told-one, told-two, told-other}
use Rattle.packets.proofs.Writes.{told-written, told-unwritten}
use Rattle.packets.proofs.write_packet.Goals as goal

pub write_as-requires : goal.write_as-requires
write_as-requires c = (zeros 0 {n = length c.args.packet.now} c.zero_all.ensures).0

pub write_as-requires-in-2 : goal.write_as-requires-in-2
write_as-requires-in-2 c = (zeros 0 {n = length c.args.packet.now} c.zero_all.ensures).0

pub returns-in-1 : goal.returns-in-1
returns-in-1 c =
    let a = c.args in
    told-written (version_of a.version) One a.table.now a.rules a.proof.now a.packet.now _ (told-one c.in-1.is)
    (zeros 0 {n = length a.packet.now} c.zero_all.ensures).1 c.write_as.ensures

pub returns-in-2 : goal.returns-in-2
returns-in-2 c =
    let a = c.args in
    told-written (version_of a.version) Two a.table.now a.rules a.proof.now a.packet.now _ (told-two c.in-2.is)
    (zeros 0 {n = length a.packet.now} c.zero_all.ensures).1 c.write_as-in-2.ensures

pub returns-in_default : goal.returns-in_default
returns-in_default c =
    let a = c.args in
    told-unwritten (version_of a.version) a.table.now a.rules a.proof.now a.packet.now (told-other c.in_default.in_default-own.rest.0.1 c.in_default.in_default-own.rest.1) c.zero_all.ensures
