use native.Mathlib.Omega.{arith}
use Rattle.text.proofs.Puts.{put_on}
use Rattle.totalizer.specs.Emitting.{line_of}
use Rattle.totalizer.proofs.texts.put_line.Goals as goal

pub returns : goal.returns
unfolding line_of
returns c = let last = c.put_bytes.ensures in
    let numbers = c.put_numbers-end.ensures in
    let first = c.put_bytes-from.ensures in record { written = put_on first (put_on numbers.written last); within = omega (arith, first.ends, numbers.within, last.ends) }
