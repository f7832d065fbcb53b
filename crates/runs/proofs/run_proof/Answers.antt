use Rattle.nogoods.proofs.Indexing.{blank-index}
use Rattle.runs.proofs.run_proof.Goals as goal

pub run_long-requires : goal.run_long-requires
run_long-requires c = let p = c.requires in record { program = p.program; short = p.short; empty = p.empty; cells = blank-index 1 }
