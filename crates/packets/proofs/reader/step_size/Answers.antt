-- `packets::reader::step_size` meets its contract.
-- Assumes nothing.
use mathlib.Core.Path.{sym}
use native.Mathlib.Omega.{arith}
use Rattle.packets.proofs.Decoded.{size_none, size-short, size-there}
use Rattle.packets.proofs.reader.step_size.Goals as goal

pub returns-then-bytes-lt2 : goal.returns-then-bytes-lt2
returns-then-bytes-lt2 c = (sym (size_none _ c.if-bytes-lt2.true), omega arith)

pub overflow_mul-size : goal.overflow_mul-size
overflow_mul-size c = record { fits = omega (arith, c.wide_byte.ensures, (c.shared_slice_known-1.given 1).fits) }

pub overflow_add-size : goal.overflow_add-size
overflow_add-size c = record { fits = omega (arith, c.wide_byte.ensures, (c.shared_slice_known-1.given 1).fits) }

pub returns-then-bytes-size : goal.returns-then-bytes-size
returns-then-bytes-size c =
    let a = c.args.bytes.now in
    (sym (size-short a (omega (arith, c.if-bytes-lt2.false)) (omega (arith, c.if-bytes-size.true, c.wide_byte.ensures))), omega arith)

pub returns : goal.returns
returns c =
    let a = c.args.bytes.now in
    let w = c.wide_byte.ensures in
    let s = size-there a (omega (arith, c.if-bytes-lt2.false)) (omega (arith, c.if-bytes-size.false, w)) in
    (omega (arith, s, w), omega (arith, c.if-bytes-size.false))
