-- `packets::versions::put_mark` meets its contract.
-- Assumes nothing.
use native.Mathlib.Omega.{arith}
use Rattle.packets.proofs.versions.put_mark.Goals as goal

pub returns-in-One : goal.returns-in-One
returns-in-One c =
    let m = c.put_bytes.ensures in
    rw c.in-One.is (record { stands = m.stands; ends = omega arith })

pub returns-in-Two : goal.returns-in-Two
returns-in-Two c =
    let m = c.put_bytes-in-Two.ensures in
    rw c.in-Two.is (record { stands = m.stands; ends = omega arith })
