-- `packets::writer::put_little` meets its contract.
-- Assumes nothing.
use mathlib.Core.Path.{◌≡◌}
use Prim.Native.Nat.{◌+◌, ◌-◌}
use native.Mathlib.Nat.{mod-lt}
use native.Mathlib.Omega.{arith}
use Rattle.packets.proofs.Writes.{going_start, going_end, little-end, byte-on}
use Rattle.packets.proofs.writer.put_little.Goals as goal

pub loop-i-init : goal.loop-i-init
loop-i-init c =
    let a = c.args in
    let e : a.at + 0 ≡ a.at = omega arith in
    let d : a.k - 0 ≡ a.k = omega arith in
    rw (e, d) (going_start _ _ _)

pub overflow_cast-byte : goal.overflow_cast-byte
overflow_cast-byte c = record { fits = mod-lt c.loop-i.left {m = 256} (omega arith) }

pub loop-i-preserved : goal.loop-i-preserved
loop-i-preserved c =
    let l = c.loop-i in
    byte-on c.args.negative c.args.k l.i l.left l.invariant c.loop-i-test.true (rw c.flip_if.ensures at c.put.ensures)

pub returns : goal.returns
returns c =
    let a = c.args in
    let l = c.loop-i in
    let e : l.i ≡ a.k = omega (arith, c.loop-i-test.false) in
    rw e at (going_end (rw (little-end (a.k - l.i) l.left (omega (arith, c.loop-i-test.false))) at l.invariant))
