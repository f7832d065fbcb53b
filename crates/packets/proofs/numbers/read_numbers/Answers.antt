-- `packets::numbers::read_numbers` meets its contract.
-- Assumes nothing.
use mathlib.Core.Path.{◌≡◌, sym, ◌∙◌}
use mathlib.Core.List.{append-nil}
use Prim.Native.Nat.{◌+◌, ◌*◌, ◌≤◌}
use native.Mathlib.Omega.{arith}
use lib.IntN.{pos}
use mir.Syntax.{w32}
use mir.Val.{to_z, of_z}
use mir.Facts.{to_z-of_z}
use lib.ListN.{length, drop, get_or, length-drop, length-set}
use lib.Seq.{drop-length, length-take-le, take_all}
use borrow.Author.Rules.{sfits_of}
use Rattle.words.proofs.Laws.{copy_more}
use Rattle.packets.specs.Bytes.{numbers_from}
use Rattle.packets.proofs.Littles.{length-numbers, number_at, part-is, room_at}
use Rattle.packets.proofs.numbers.read_numbers.Goals as goal
use Rattle.packets.proofs.numbers.read_numbers.Goals.{In-loop-i}

-- the next number's bytes are there
room : (c : In-loop-i) → (let a = c.args in a.k * c.loop-i.i + a.k ≤ length a.bytes.now)
room c =
    let l = c.loop-i in
    let a = c.args in
    room_at a.k (length a.row.now) l.i (length a.bytes.now) (omega (arith, c.loop-i-test.true, l.invariant.1)) c.requires.1

pub overflow_mul-at : goal.overflow_mul-at
overflow_mul-at c = record { fits = omega (arith, room c) }

pub overflow_add-end : goal.overflow_add-end
overflow_add-end c = record { fits = omega (arith, room (goal.at.overflow_add-end c).In-loop-i) }

pub slice_bounds-signed_of-count : goal.slice_bounds-signed_of-count
slice_bounds-signed_of-count c = omega arith

pub signed_of-requires : goal.signed_of-requires
signed_of-requires c =
    let a = c.args in
    let at = a.k * c.loop-i.i in
    let r = length-take-le a.k (drop at a.bytes.now) (omega (arith, room (goal.at.signed_of-requires c).In-loop-i, length-drop at a.bytes.now)) in
    rw (part-is a.k at a.bytes.now) (omega (arith, r, c.requires.0), omega (arith, r, c.requires.0))

pub loop-i-preserved : goal.loop-i-preserved
loop-i-preserved c =
    let l = c.loop-i in
    let row = c.args.row.now in
    let bytes = c.args.bytes.now in
    let k = c.args.k in
    let n = length row in
    let s = numbers_from k n bytes in
    let q = rw (part-is k (k * l.i) bytes) at c.signed_of.ensures in
    let v : to_z w32 (of_z w32 c.signed_of.result) ≡ get_or s l.i (pos 0) = to_z-of_z {w = w32} (sfits_of {z = c.signed_of.result} c.signed_of.type_inv) ∙ (q ∙ sym (number_at k n bytes l.i (omega arith))) in
    (rw (v, l.invariant.0) (copy_more s row l.i (pos 0) (omega (arith, length-numbers k n bytes)) (omega arith)), simp length-set l.invariant.1)

pub returns : goal.returns
returns c =
    let l = c.loop-i in
    let a = c.args in
    let n = length a.row.now in
    let e : l.i ≡ n = omega (arith, c.loop-i-test.false, l.invariant.1) in
    l.invariant.0
    ∙ rw (e, drop-length a.row.now, append-nil) (take_all n (numbers_from a.k n a.bytes.now) (omega (arith, length-numbers a.k n a.bytes.now)))
