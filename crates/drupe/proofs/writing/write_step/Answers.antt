-- `drupe::writing::write_step` meets its contract: the letter, the numbers, and the end of the line.
-- Assumes nothing.
use native.Mathlib.Omega.{arith}
use Rattle.text.specs.Bytes.{byte_of}
use Rattle.text.proofs.Puts.{put_on, put_one}
use Rattle.drupe.proofs.Texts.{step-put}
use Rattle.drupe.proofs.writing.write_step.Goals as goal

pub returns : goal.returns
returns c = let a = c.args in
    let end = c.put_bytes.ensures in
    let numbers = c.put_numbers-end.ensures in
    let letter = put_one (byte_of a.letter) (rw c.byte_of.ensures at c.put.ensures) in record { written = step-put a.letter a.numbers.now (put_on letter (put_on numbers.written end)); within = omega (arith, numbers.within, end.ends) }
