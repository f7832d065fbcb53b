-- `packets::read_packet` meets its contract.
-- Assumes nothing.
use lib.IntN.{pos}
use lib.ListN.{length}
use Rattle.words.proofs.Laws.{zeros}
use Rattle.packets.specs.Packets.{version_of}
use Rattle.packets.specs.declared.Version.TheVariants.{One, Two}
use Rattle.packets.proofs.Given.{told-one, told-two, told-other, told-read, told-nothing}
use Rattle.packets.proofs.read_packet.Goals as goal

pub read_as-requires : goal.read_as-requires
read_as-requires c =
    let a = c.args in
    ((zeros (pos 0) {n = length a.table.now} c.zero_all.ensures).0, (zeros 0 {n = length a.proof.now} c.zero_all-2.ensures).0)

pub read_as-requires-in-2 : goal.read_as-requires-in-2
read_as-requires-in-2 c =
    let a = c.args in
    ((zeros (pos 0) {n = length a.table.now} c.zero_all.ensures).0, (zeros 0 {n = length a.proof.now} c.zero_all-2.ensures).0)

pub returns-in-1 : goal.returns-in-1
returns-in-1 c =
    let a = c.args in
    told-read (version_of a.version) One a.packet.now {table = a.table.now} {proof = a.proof.now} (told-one c.in-1.is)
    (zeros (pos 0) {n = length a.table.now} c.zero_all.ensures).1
    (zeros 0 {n = length a.proof.now} c.zero_all-2.ensures).1
    c.read_as.ensures

pub returns-in-2 : goal.returns-in-2
returns-in-2 c =
    let a = c.args in
    told-read (version_of a.version) Two a.packet.now {table = a.table.now} {proof = a.proof.now} (told-two c.in-2.is)
    (zeros (pos 0) {n = length a.table.now} c.zero_all.ensures).1
    (zeros 0 {n = length a.proof.now} c.zero_all-2.ensures).1
    c.read_as-in-2.ensures

pub returns-in_default : goal.returns-in_default
returns-in_default c =
    let a = c.args in
    told-nothing (version_of a.version) a.packet.now {table = a.table.now} {proof = a.proof.now} (told-other c.in_default.in_default-own.rest.0.1 c.in_default.in_default-own.rest.1) c.zero_all.ensures
    c.zero_all-2.ensures
