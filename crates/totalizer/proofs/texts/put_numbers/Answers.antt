-- `totalizer::texts::put_numbers` meets its contract. After i turns the first i numbers are put.
-- Assumes nothing.
use native.Mathlib.Omega.{arith}
use lib.IntN.{pos}
use lib.ListN.{get_or}
use Rattle.std.proofs.Common.{rules}
use Rattle.words.proofs.Words.{back}
use Rattle.text.specs.Decimals.{spaced}
use Rattle.text.proofs.Puts.{put_on, put-none, spaced-more}
use Rattle.totalizer.proofs.texts.put_numbers.Goals as goal

pub loop-number-init : goal.loop-number-init
unfolding spaced
loop-number-init c = (put-none _ _, omega arith)

pub loop-number-preserved : goal.loop-number-preserved
loop-number-preserved c =
    let l = c.loop-number in
    let ns = c.args.numbers.now in
    let p = rw (back (get_or ns l.number-index (pos 0)) (search rules)) at c.put_number-end.ensures in
    (rw (spaced-more ns l.number-index c.loop-number-test.true) (put_on l.invariant.0 p.written), omega (arith, p.within, l.invariant.1))
