-- `packets::writer::put_all` meets its contract.
-- Assumes nothing.
use native.Mathlib.Numerals.{add-one}
use native.Mathlib.Omega.{arith}
use lib.IntN.{pos}
use lib.ListN.{get_or}
use Rattle.std.proofs.Common.{rules}
use Rattle.words.proofs.Words.{back}
use Rattle.packets.proofs.Littles.{length-signed, length-bytes}
use Rattle.packets.proofs.Writes.{going_start, going_on, going_end, numbers_on, numbers-none}
use Rattle.packets.proofs.writer.put_all.Goals as goal

pub loop-word-init : goal.loop-word-init
loop-word-init c = (going_start _ _ _, omega arith)

pub put_signed-end-requires : goal.put_signed-end-requires
put_signed-end-requires c = omega (arith, c.loop-word.invariant.1, c.requires.0, c.requires.1)

pub loop-word-preserved : goal.loop-word-preserved
loop-word-preserved c =
    let l = c.loop-word in
    let k = c.args.k in
    let row = c.args.row.now in
    let i = l.word-index in
    let z = get_or row i (pos 0) in
    let p = rw (back z (search rules)) at c.put_signed-end.ensures in
    (rw (add-one i) (going_on (rw (numbers_on k row i (omega arith)) at l.invariant.0) p), omega (arith, p.ends, length-signed k z, l.invariant.1, c.requires.0))

pub returns : goal.returns
returns c =
    let l = c.loop-word in
    let a = c.args in
    let all = going_end (rw (numbers-none a.k a.row.now l.word-index (omega arith)) at l.invariant.0) in
    record { put = all; value = omega (arith, all.ends, length-bytes a.k a.row.now) }
