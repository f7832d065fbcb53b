-- `exports::aspdrupe_write_packet` meets its contract: the answer that is told is the writer's.
-- Assumes nothing.
use mathlib.Core.List.{List}
use Prim.Native.Nat.{ℕ}
use lib.IntN.{ℤ}
use Rattle.packets.specs.Packets.{WrittenPacket}
use Rattle.packets.specs.declared.PacketWriting.{PacketWriting}
use Rattle.exports.specs.Codes.{Told, writing_code, writing_numbers}
use Rattle.exports.specs.Services.{WriteService}
use borrow.Author.Rules.{rules}
use Rattle.exports.proofs.aspdrupe_write_packet.Goals as goal

write-told : {version : ℕ} {table : List ℤ} {rules : ℕ} {proof packet packet' answer answer' : List ℕ} {w : PacketWriting} {result : ℕ}
    → WrittenPacket version table rules proof packet packet' w → Told (writing_code w) (writing_numbers w) answer answer' result
    → WriteService version table rules proof packet packet' answer answer' result
write-told written told = record { bytes = written.bytes; told = rw written.answer at told }

pub returns : goal.returns
returns c = write-told c.write_packet-written.ensures c.tell_writing.ensures
