-- `text::writing::put_digits` meets its contract.
-- Assumes nothing.
use Prim.Native.Nat.{◌/◌}
use native.Mathlib.Omega.{arith}
use Rattle.text.proofs.Decimals.{tenth}
use Rattle.text.proofs.Puts.{put_on, decimal-one, decimal-more, decimal-short}
use Rattle.text.proofs.writing.+put_digits.Goals as goal

pub returns-then-n-lt10 : goal.returns-then-n-lt10
returns-then-n-lt10 t c = rw (decimal-one c.args.n c.if-n-lt10.true) c.put_digit.ensures

pub put_digit-requires-2-clause-room : goal.put_digit-requires-2-clause-room
put_digit-requires-2-clause-room t c =
    let a = c.args in
    let s = decimal-short (a.n / 10) (omega (arith, (tenth a.n c.if-n-lt10.false).1, c.ranges.n.fits)) in
    omega (arith, s, c.put_digits-last.ensures.ends, c.requires)

pub returns : goal.returns
returns t c = rw (decimal-more c.args.n c.if-n-lt10.false) (put_on c.put_digits-last.ensures c.put_digit-2.ensures)
