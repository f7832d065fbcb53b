use Rattle.nogoods.proofs.Indexing.{blank-index}
use Rattle.runs.proofs.run_half.Goals as goal

pub run_lent-requires : goal.run_lent-requires
run_lent-requires c = let p = c.requires in record { program = p.program; start = p.start; bodies = p.bodies; short = p.short; empty = p.empty; cells = blank-index 1 }
