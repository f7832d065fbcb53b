use Rattle.runs.proofs.run_indexed.Goals as goal

pub run_short-requires : goal.run_short-requires
run_short-requires c = let p = c.requires in record { program = p.program; index = p.index; relevant = p.relevant; start = p.start; bodies = p.bodies; short = p.short; empty = p.empty }

pub run_framed-requires : goal.run_framed-requires
run_framed-requires c = let p = c.requires in record { program = p.program; index = p.index; relevant = p.relevant; start = p.start; bodies = p.bodies; short = p.short; empty = p.empty }
