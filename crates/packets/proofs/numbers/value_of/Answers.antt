-- `packets::numbers::value_of` meets its contract.
-- Assumes nothing.
use mathlib.Core.Path.{◌≡◌, ◌∙◌}
use mathlib.Core.List.{map}
use Prim.Native.Nat.{suc, ◌+◌, ◌-◌, ◌*◌}
use native.Mathlib.Omega.{arith}
use lib.ListN.{drop, length-map, length-drop}
use lib.Seq.{drop-length}
use Rattle.packets.specs.Bytes.{value, flip_if}
use Rattle.packets.proofs.Littles.{bytes-all, bytes-part, bytes-flips, value-small, value_on}
use Rattle.packets.proofs.numbers.value_of.Goals as goal

pub loop-i-init : goal.loop-i-init
unfolding value
loop-i-init c = (rw (drop-length c.args.bytes.now), omega arith)

pub loop-i-preserved : goal.loop-i-preserved
loop-i-preserved c =
    let l = c.loop-i in
    let bytes = c.args.bytes.now in
    let f = flip_if c.args.negative in
    let j = l.i - 1 in
    let e : suc j ≡ l.i = omega (arith, c.loop-i-test.true) in
    let v = value_on f bytes j (omega arith) in
    let g = bytes-flips c.args.negative (drop j bytes) (bytes-part j bytes (bytes-all bytes (λ k. (c.type_inv.bytes k).fits))).1 in
    let s = value-small 4 (map f (drop j bytes)) (omega (arith, length-map (drop j bytes) f, length-drop j bytes, c.requires)) g in
    let w = rw e at v in
    let n : l.n * 256 + c.wide_byte.result ≡ value (map f (drop j bytes)) = omega (arith, c.wide_byte.ensures, c.flip_if.ensures, l.invariant.0, w) in
    (n, omega (arith, n, s))

pub returns : goal.returns
returns c =
    let l = c.loop-i in
    let z : l.i ≡ 0 = omega (arith, c.loop-i-test.false) in
    (l.invariant.0 ∙ rw z, l.invariant.1)
