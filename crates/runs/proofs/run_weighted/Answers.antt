use mathlib.Core.Path.{sym}
use mathlib.Core.Bool.{true≢false}
use Rattle.runs.proofs.run_weighted.Goals as goal

pub run_indexed-requires : goal.run_indexed-requires
run_indexed-requires c = let f = c in
    let p = f.requires in record {
      program = p.program;
      index = λ e. absurd (true≢false (sym e));
      relevant = f.fill.ensures;
      start = p.start;
      bodies = p.bodies;
      short = p.short;
      empty = p.empty;
      cells = p.cells;
    }

pub returns : goal.returns
returns c = c.run_indexed.ensures
