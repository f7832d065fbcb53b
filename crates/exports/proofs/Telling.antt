-- An answer of a known case is told by that case's code and numbers; and the answer of a move, up or down.
-- Assumes nothing.
use mathlib.Core.Path.{◌≡◌}
use mathlib.Core.List.{List}
use Prim.Native.Nat.{ℕ}
use lib.ListN.{length}
use lib.Seq.{sets}
use Rattle.packets.specs.Packets.{PacketWritten, WritingLeaves}
use Rattle.packets.specs.declared.PacketWriting.{PacketWriting}
use Rattle.exports.specs.Codes.{Told, writing_code, writing_numbers}
use Rattle.exports.specs.Services.{MoveService}

pub telling : {A : Type 0} (code : A → ℕ) (numbers : A → List ℕ) {x y : A} {before after : List ℕ} {result : ℕ}
    → x ≡ y → result ≡ code y → after ≡ sets before 0 (numbers y) → Told (code x) (numbers x) before after result
telling code numbers e returned written = rw e (record { returned = returned; written = written })

pub move-told : {move : List ℕ → ℕ → PacketWritten} {packet output output' answer answer' : List ℕ} {w : PacketWriting} {result : ℕ}
    → WritingLeaves (move packet (length output)) output output' w → Told (writing_code w) (writing_numbers w) answer answer' result
    → MoveService move packet output output' answer answer' result
move-told moved told = record { bytes = moved.bytes; told = rw moved.answer at told }
