-- `drupe::writing::put_numbers` meets its contract.
-- Assumes nothing.
use mathlib.Core.Path.{◌≡◌}
use native.Mathlib.Omega.{arith}
use lib.IntN.{pos}
use lib.ListN.{length, take, get_or}
use lib.Seq.{take-length}
use Rattle.std.proofs.Common.{rules}
use Rattle.words.proofs.Words.{back}
use Rattle.text.specs.Decimals.{spaced}
use Rattle.text.proofs.Puts.{put_on, put-none, spaced-more}
use Rattle.drupe.proofs.writing.put_numbers.Goals as goal

pub loop-n-init : goal.loop-n-init
unfolding spaced
loop-n-init c = (put-none _ _, omega arith)

pub put_number-end-requires : goal.put_number-end-requires
put_number-end-requires c = let l = c.loop-n in omega (arith, l.invariant.1, c.requires.room, c.requires.few)

pub loop-n-preserved : goal.loop-n-preserved
loop-n-preserved c =
    let l = c.loop-n in
    let zs = c.args.numbers.now in
    let p = rw (back (get_or zs l.n-index (pos 0)) (search rules)) at c.put_number-end.ensures in
    (rw (spaced-more zs l.n-index (omega arith)) (put_on l.invariant.0 p.written), omega (arith, p.within, l.invariant.1))

pub returns : goal.returns
returns c =
    let l = c.loop-n in
    let zs = c.args.numbers.now in
    let e : l.n-index ≡ length zs = omega arith in
    let t : take l.n-index zs ≡ zs = rw e (take-length zs) in
    record { written = rw t at l.invariant.0; within = omega (arith, l.invariant.1, c.requires.few) }
