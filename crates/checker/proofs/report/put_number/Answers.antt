-- `checker::report::put_number` meets its contract.
-- Assumes nothing.
use native.Mathlib.Omega.{arith}
use Rattle.text.proofs.Puts.{put_on, decimal-short}
use Rattle.checker.proofs.report.put_number.Goals as goal

pub returns : goal.returns
returns c = let a = c in
    let d = c.put_digits.ensures in
    let p = c.put_bytes-from.ensures in record { written = put_on p d; within = omega (arith, decimal-short a.args.n a.well_formed.1.1.0.1, p.ends, d.ends) }
