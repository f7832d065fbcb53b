-- `exports::aspdrupe_read_line` meets its contract: what is put and told is the reading's, and the reading is what the text has
-- at the position.
-- Assumes nothing.
use mathlib.Core.Path.{◌≡◌}
use mathlib.Core.List.{List}
use Prim.Native.Nat.{ℕ}
use lib.IntN.{ℤ}
use lib.Seq.{sets}
use Rattle.drupe.specs.Lines.{ProofLineRead}
use Rattle.drupe.specs.declared.LineReading.{LineReading}
use Rattle.exports.specs.Codes.{Told, line_code, line_numbers}
use Rattle.exports.specs.Services.{LineService}
use Rattle.exports.proofs.aspdrupe_read_line.Goals as goal

line-told : {text : List ℕ} {position : ℕ} {r : LineReading} {numbers numbers' : List ℤ} {answer answer' : List ℕ} {result : ℕ}
    → ProofLineRead text position r → numbers' ≡ sets numbers 0 r.numbers
    → Told (line_code r.answer) (line_numbers r.answer) answer answer' result
    → LineService text position numbers numbers' answer answer' result
line-told read copied told = record {
  copied = rw read.numbers at copied;
  told = rw read.answer at told;
}

pub returns : goal.returns
returns c =
    let read = c.read_line-reading.ensures in
    line-told read c.put_words.ensures c.tell_line.ensures
