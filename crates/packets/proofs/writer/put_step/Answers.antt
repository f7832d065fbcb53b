-- `packets::writer::put_step` meets its contract: the letter, the count, and the numbers.
-- Assumes nothing.
use native.Mathlib.Omega.{arith}
use lib.ListN.{length}
use Rattle.text.specs.Bytes.{byte_of}
use Rattle.text.proofs.Puts.{put_on}
use Rattle.packets.proofs.Writes.{put_two}
use Rattle.packets.proofs.writer.put_step.Goals as goal

pub returns : goal.returns
returns c = let a = c in
    let n = c.put_all.ensures in
    let letter = rw c.byte_of.ensures at c.put.ensures in record { put = put_on (put_two (byte_of a.args.letter) (length a.args.numbers.now) letter c.put-2.ensures) n.put; upper_bound = omega (arith, n.value, a.requires.0) }
