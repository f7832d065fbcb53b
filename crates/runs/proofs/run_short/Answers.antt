use Rattle.nogoods.proofs.Indexing.{blank-index}
use Rattle.runs.proofs.run_short.Goals as goal

pub run_lines-requires : goal.run_lines-requires
run_lines-requires c = let p = c.requires in record { program = p.program; index = p.index; relevant = p.relevant; start = p.start; bodies = p.bodies; short = p.short; empty = p.empty; cells = blank-index 55687 }
