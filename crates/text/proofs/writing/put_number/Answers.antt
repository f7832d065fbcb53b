-- `text::writing::put_number` meets its contract.
-- Assumes nothing.
use native.Mathlib.Omega.{arith}
use mir.Facts.{to_z-of_z}
use Rattle.text.proofs.Puts.{put_on, signed-bytes, sign-short, size-short}
use Rattle.text.proofs.writing.put_number.Goals as goal

pub returns : goal.returns
returns c = let a = c in
    let size = simp (to_z-of_z a.ranges.number) at c.variable_of.ensures in
    let digits = rw size at c.put_digits.ensures in
    let sign = simp (to_z-of_z a.ranges.number) at c.put_sign-from.ensures in
    let space = c.put_bytes-sign.ensures in record { written = rw (signed-bytes a.args.number) (put_on space (put_on sign digits)); within = omega (arith, sign.ends, space.ends, digits.ends, sign-short a.args.number, size-short a.args.number a.ranges.number) }
