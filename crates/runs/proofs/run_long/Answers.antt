use mathlib.Core.Path.{refl, sym, ◌∙◌}
use Rattle.runs.proofs.run_long.Goals as goal

pub run_plain-requires : goal.run_plain-requires
run_plain-requires c = let d = c in
    let m = c in
    let p = m.requires in record {
      program = p.program;
      start = (m.marks_to-known.ensures, refl);
      plain = sym d.all_plain.ensures ∙ d.if-all_plain.true;
      short = p.short;
      empty = p.empty;
      cells = p.cells;
    }

pub run_recorded-requires : goal.run_recorded-requires
run_recorded-requires c = let m = c in
    let p = m.requires in record { program = p.program; start = (m.marks_to-known.ensures, refl); short = p.short; empty = p.empty; cells = p.cells }

pub marks_to-known-requires : goal.marks_to-known-requires
marks_to-known-requires c = c.requires.program.0.1.high

pub returns : goal.returns
returns c = c.run_recorded.ensures
