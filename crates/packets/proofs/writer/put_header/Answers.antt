-- `packets::writer::put_header` meets its contract.
-- Assumes nothing.
use native.Mathlib.Omega.{arith}
use mathlib.Core.Path.{◌≡◌}
use Rattle.text.proofs.Puts.{put_on}
use Rattle.packets.proofs.writer.put_header.Goals as goal

pub returns : goal.returns
returns c =
    let m = c.put_mark.ensures in
    let p = c.put_count-second.ensures in
    let q = c.put_count.ensures in
    let e : c.put_count.result ≡ 13 = omega (arith, p.value, q.value) in
    rw e at (put_on m (put_on p.put q.put))
