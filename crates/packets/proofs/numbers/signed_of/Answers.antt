-- `packets::numbers::signed_of` meets its contract.
-- Assumes nothing.
use mathlib.Core.Path.{sym}
use Prim.Native.Nat.{◌<◌}
use native.Mathlib.Omega.{arith}
use lib.IntN.{pos, negsuc}
use Rattle.words.proofs.Words.{back}
use Rattle.packets.proofs.Littles.{signed-as, signed-bits, low_bits, minus-fits, minus-word}
use Rattle.packets.proofs.numbers.signed_of.Goals as goal
use Rattle.packets.proofs.numbers.signed_of.Goals.{After-value_of-n}

-- the value is in the range of 32 bits
small : (c : After-value_of-n) → c.value_of-n.result < 2147483648
small c =
    let a = c in
    signed-bits a.args.bytes.now c.value_of-n.result a.requires.0 a.requires.1 (λ i. (c.shared_slice_known-1.given i).fits) c.value_of-n.ensures.0

pub overflow_cast-n : goal.overflow_cast-n
overflow_cast-n c = record { sfits = omega (arith, small c) }

pub overflow_sub-result : goal.overflow_sub-result
overflow_sub-result c = minus-fits c.value_of-n.result (small (goal.at.overflow_sub-result c).After-value_of-n)

pub overflow_cast-result : goal.overflow_cast-result
overflow_cast-result c = rw (minus-word c.value_of-n.result (small (goal.at.overflow_cast-result c).After-value_of-n)) (record { sfits = omega (arith, small (goal.at.overflow_cast-result c).After-value_of-n) })

pub returns-then-negative : goal.returns-then-negative
returns-then-negative c =
    let a = c in
    let n = c.value_of-n.result in
    rw (minus-word n (small (goal.at.returns-then-negative c).After-value_of-n), back (negsuc n) (omega (arith, small (goal.at.returns-then-negative c).After-value_of-n)))
    (sym (signed-as a.args.bytes.now _ n a.requires.0 c.if-negative.true-raw c.value_of-n.ensures.0))

pub overflow_cast-result-2 : goal.overflow_cast-result-2
overflow_cast-result-2 c = rw (low_bits c.value_of-n.result (small (goal.at.overflow_cast-result-2 c).After-value_of-n)) (record { sfits = omega (arith, small (goal.at.overflow_cast-result-2 c).After-value_of-n) })

pub returns : goal.returns
returns c =
    let a = c in
    let n = c.value_of-n.result in
    rw (low_bits n (small (goal.at.returns c).After-value_of-n), back (pos n) (omega (arith, small (goal.at.returns c).After-value_of-n)))
    (sym (signed-as a.args.bytes.now _ n a.requires.0 c.if-negative.false-raw c.value_of-n.ensures.0))
