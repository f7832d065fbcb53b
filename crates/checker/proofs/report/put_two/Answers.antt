-- `checker::report::put_two` meets its contract.
-- Assumes nothing.
use native.Mathlib.Omega.{arith}
use Rattle.text.proofs.Puts.{put_on}
use Rattle.checker.proofs.report.put_two.Goals as goal

pub returns : goal.returns
returns c = let end = c.put_bytes.ensures in
    let second = c.put_number-end.ensures in
    let first = c.put_number-second.ensures in record { written = put_on first.written (put_on second.written end); within = omega (arith, first.within, second.within, end.ends) }
