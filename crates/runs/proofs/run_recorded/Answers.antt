use mathlib.Core.Path.{refl}
use Rattle.runs.proofs.run_recorded.Goals as goal

pub run_weighted-requires : goal.run_weighted-requires
run_weighted-requires c = let p = c.requires in record { program = p.program; start = p.start; bodies = λ w. refl; short = p.short; empty = p.empty; cells = p.cells }

pub returns : goal.returns
returns c limit h ws p = (c.run_weighted.ensures limit h ws p).0
