-- `packets::reader::read_rule` meets its contract: the first words tell.
-- Assumes nothing.
use mathlib.Core.Path.{◌≡◌, sym}
use Prim.Native.Nat.{ℕ, ◌+◌, ◌-◌, ◌≤◌}
use native.Mathlib.Omega.{arith}
use lib.IntN.{pos}
use lib.ListN.{length, take, replicate}
use lib.Seq.{length-take-le}
use Rattle.packets.specs.Bytes.{numbers_from}
use Rattle.packets.specs.Parts.{most_words}
use Rattle.packets.proofs.Littles.{length-numbers, numbers-first}
use Rattle.packets.proofs.RulesRead.{told-few, told-first}
use Rattle.packets.proofs.reader.read_rule.Goals as goal

-- the part of the row has one place more than there are words
part : (n : ℕ) → n ≤ most_words → length (take (n + 1) (replicate (1 + most_words) (pos 0))) ≡ n + 1
part n h = length-take-le (n + 1) (replicate (1 + most_words) (pos 0)) (omega arith)

pub returns-then-count-lt-FRONT : goal.returns-then-count-lt-FRONT
returns-then-count-lt-FRONT c =
    let a = c.args in
    let n = length-numbers 4 a.count a.bytes.now in
    told-few a.version (numbers_from 4 a.count a.bytes.now) c.no_rule.ensures (omega (arith, c.if-count-lt-FRONT.true, n))

pub slice_bounds-decode_rule-end : goal.slice_bounds-decode_rule-end
slice_bounds-decode_rule-end c = sym (part _ (omega (arith, c.if-count-lt-ROW.true)))

pub decode_rule-requires : goal.decode_rule-requires
decode_rule-requires c =
    let p = c in
    rw (part p.args.count (omega (arith, c.if-count-lt-ROW.true))) (omega (arith, c.if-count-lt-FRONT.false), omega (arith, p.requires))

pub returns-then-count-lt-ROW : goal.returns-then-count-lt-ROW
returns-then-count-lt-ROW c =
    let n = c.args.count in
    let e : n + 1 - 1 ≡ n = omega arith in
    rw (part n (omega (arith, c.if-count-lt-ROW.true)), e) at c.decode_rule.ensures

pub returns : goal.returns
returns c =
    let a = c.args in
    let f = numbers-first 4 most_words a.count a.bytes.now (omega (arith, c.if-count-lt-ROW.false)) in
    told-first a.version (numbers_from 4 a.count a.bytes.now) (rw f at c.decode_rule-2.ensures)
