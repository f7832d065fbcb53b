-- `packets::writer::put_signed` meets its contract.
-- Assumes nothing.
use native.Mathlib.Omega.{arith}
use mir.Facts.{to_z-of_z}
use Rattle.packets.proofs.Writes.{negative-bytes, positive-bytes}
use Rattle.packets.proofs.writer.put_signed.Goals as goal

pub overflow_sub-size : goal.overflow_sub-size
overflow_sub-size c =
    let a = c in
    let f = a.ranges.word in
    let v = simp (to_z-of_z f) at c.variable_of-size.ensures in
    omega (arith, v, (negative-bytes a.args.k a.args.word (simp (to_z-of_z f) at c.if-word-lt0.true)).0)

pub returns-then-word-lt0 : goal.returns-then-word-lt0
returns-then-word-lt0 c =
    let a = c in
    let f = a.ranges.word in
    let v = simp (to_z-of_z f) at c.variable_of-size.ensures in
    rw (negative-bytes a.args.k a.args.word (simp (to_z-of_z f) at c.if-word-lt0.true)).1 (rw v at c.put_little.ensures)

pub returns : goal.returns
returns c =
    let a = c in
    let f = a.ranges.word in
    let v = simp (to_z-of_z f) at c.variable_of-size.ensures in
    rw (positive-bytes a.args.k a.args.word (simp (to_z-of_z f) at c.if-word-lt0.false)) (rw v at c.put_little-2.ensures)
