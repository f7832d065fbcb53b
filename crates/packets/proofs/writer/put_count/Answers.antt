-- `packets::writer::put_count` meets its contract.
-- Assumes nothing.
use native.Mathlib.Omega.{arith}
use Rattle.packets.proofs.Littles.{plain-bytes, length-little}
use Rattle.packets.specs.Bytes.{little}
use Rattle.packets.proofs.writer.put_count.Goals as goal

pub returns : goal.returns
returns c = let n = c.args.count in
    let p = rw (plain-bytes (little 4 n)) at c.put_little.ensures in record { put = p; value = omega (arith, p.ends, length-little 4 n) }
