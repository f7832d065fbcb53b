-- `checker::report::put_counts` meets its contract.
-- Assumes nothing.
use native.Mathlib.Omega.{arith}
use Rattle.text.proofs.Puts.{put_on}
use Rattle.checker.proofs.report.put_counts.Goals as goal

pub returns : goal.returns
returns c = let end = c.put_bytes.ensures in
    let nogoods = c.put_number-end.ensures in
    let steps = c.put_number-after_steps.ensures in
    let rules = c.put_number-after_rules.ensures in
    let atoms = c.put_number-after_atoms.ensures in record { written = put_on atoms.written (put_on rules.written (put_on steps.written (put_on nogoods.written end))); within = omega (arith, atoms.within, rules.within, steps.within, nogoods.within, end.ends) }
