use mathlib.Core.Path.{sym, ◌∙◌}
use Rattle.runs.proofs.run_lent.Goals as goal

pub run_plain-requires : goal.run_plain-requires
run_plain-requires c = let d = c in
    let p = d.requires in record {
      program = p.program;
      start = p.start;
      plain = sym d.all_plain.ensures ∙ d.if-all_plain.true;
      short = p.short;
      empty = p.empty;
      cells = p.cells;
    }

pub run_weighted-requires : goal.run_weighted-requires
run_weighted-requires c = let all = c.requires in record { program = all.program; start = all.start; bodies = all.bodies; short = all.short; empty = all.empty; cells = all.cells }

pub returns-then-all_plain : goal.returns-then-all_plain
returns-then-all_plain c = c.run_plain.ensures

pub returns : goal.returns
returns c = c.run_weighted.ensures
