-- `packets::reader::step_with` meets its contract.
-- Assumes nothing.
use mathlib.Core.Path.{◌≡◌, refl, sym}
use Prim.Native.Nat.{ℕ, ◌≤◌}
use native.Mathlib.Omega.{arith}
use lib.IntN.{pos}
use lib.ListN.{length, take, replicate}
use lib.Seq.{length-take-le}
use Rattle.packets.specs.Bytes.{numbers_from}
use Rattle.packets.proofs.Littles.{length-numbers}
use Rattle.packets.proofs.Decoded.{too_many}
use Rattle.packets.proofs.reader.step_with.Goals as goal

-- the part of the row is as long as it is asked for
part : (n : ℕ) → n ≤ 65 → length (take n (replicate 65 (pos 0))) ≡ n
part n h = length-take-le n (replicate 65 (pos 0)) (omega arith)

pub returns-then-count-gt-MOST_NUMBERS : goal.returns-then-count-gt-MOST_NUMBERS
returns-then-count-gt-MOST_NUMBERS c =
    let a = c.args in
    rw (too_many a.letter (numbers_from 2 a.count a.bytes.now) (omega (arith, length-numbers 2 a.count a.bytes.now, c.if-count-gt-MOST_NUMBERS.true))) refl

pub slice_bounds-decode_step-end : goal.slice_bounds-decode_step-end
slice_bounds-decode_step-end c = sym (part _ c.if-count-gt-MOST_NUMBERS.false)

pub decode_step-requires : goal.decode_step-requires
decode_step-requires c = rw (part _ c.if-count-gt-MOST_NUMBERS.false) (c.if-count-gt-MOST_NUMBERS.false, c.requires)

pub returns : goal.returns
returns c = rw (part _ c.if-count-gt-MOST_NUMBERS.false) at c.decode_step.ensures
