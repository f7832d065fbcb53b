-- `exports::aspdrupe_read_packet` meets its contract: the answer that is told is the reader's.
-- Assumes nothing.
use mathlib.Core.List.{List}
use Prim.Native.Nat.{ℕ}
use lib.IntN.{ℤ}
use Rattle.packets.specs.Packets.{ReadPacket}
use Rattle.packets.specs.declared.PacketReading.{PacketReading}
use Rattle.exports.specs.Codes.{Told, reading_code, reading_numbers}
use Rattle.exports.specs.Services.{ReadService}
use Rattle.exports.proofs.aspdrupe_read_packet.Goals as goal

read_told : {version : ℕ} {packet : List ℕ} {table table' : List ℤ} {proof proof' answer answer' : List ℕ} {r : PacketReading} {result : ℕ}
    → ReadPacket version packet table table' proof proof' r → Told (reading_code r) (reading_numbers r) answer answer' result
    → ReadService version packet table table' proof proof' answer answer' result
read_told read told = record { words = read.words; text = read.text; told = rw read.answer at told }

pub returns : goal.returns
returns c = read_told c.read_packet-read.ensures c.tell_reading.ensures
