use mathlib.Core.Path.{sym, ◌∙◌}
use mathlib.Core.Bool.{true≢false}
use Rattle.loops.proofs.Expanded.{relevant-plain}
use Rattle.runs.proofs.run_plain.Goals as goal

pub run_indexed-requires : goal.run_indexed-requires
run_indexed-requires c = let f = c in
    let p = f.requires in record {
      program = p.program;
      index = f.fill.ensures;
      relevant = relevant-plain _ _ p.plain;
      start = p.start;
      bodies = λ w. absurd (true≢false (sym p.plain ∙ w));
      short = p.short;
      empty = p.empty;
      cells = p.cells;
    }

pub returns : goal.returns
returns c = c.run_indexed.ensures
