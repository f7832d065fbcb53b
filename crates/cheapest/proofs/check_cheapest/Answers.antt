use mathlib.Core.Path.{◌≡◌, ◌∙◌}
use lib.IntN.{pos}
use lib.ListN.{length}
use Rattle.words.proofs.Laws.{zeros}
use Rattle.aspif.specs.Reading.{ProgramRead, program}
use Rattle.aspif.proofs.Shorter.{read-shorter}
use Rattle.checker.proofs.Verdicts.{handed-on, ReadProgram, program-read, held}
use Rattle.cheapest.proofs.Answers.{program-unread, cheapest-read, reading-same}
use borrow.Author.Rules.{rules}
use Rattle.cheapest.proofs.check_cheapest.Goals as goal
use Rattle.cheapest.proofs.check_cheapest.Goals.{In_ok-atoms}

-- what was read, where a program is
module _ (c : In_ok-atoms) where
  abbrev read : ProgramRead c.args.program.now c.args.table.now c.read_program.new.table c.read_program.result
  read = c.read_program.ensures

  found : ReadProgram (length c.args.table.now) (length c.args.store.now) c.args.program.now c.args.proof.now read.answer read.table c.in_ok-atoms.field-0.atoms c.in_ok-atoms.field-0.rules
  found = program-read _ _ _ _ read.answer read.table _ _ c.in_ok-atoms.was

pub cheapest_read-requires : goal.cheapest_read-requires
cheapest_read-requires c = let d = (goal.at.cheapest_read-requires c).In_ok-atoms in
    let f = found d in
    let h = held _ _ _ _ (read d).answer (read d).table f (search rules) in record { program = ((f.P, h.0), h.1); short = rw h.0.holds.are (read-shorter _ _ f.P f.read); empty = (zeros (pos 0) {n = length d.args.store.now} d.zero_all.ensures).0 }

pub returns-in_err-atoms : goal.returns-in_err-atoms
returns-in_err-atoms c =
    let r = c.read_program.ensures in
    rw (handed-on _ c.from_residual.ensures.1) (program-unread _ _ _ _ _ _ r.answer r.table _ c.in_err-atoms.was c.zero_all.ensures)

pub returns : goal.returns
returns c =
    let d = (goal.at.returns c).In_ok-atoms in
    let f = found d in
    let t : length d.read_program.new.table ≡ length d.args.table.now = search rules in
    let s : length d.zero_all.new.items ≡ length d.args.store.now = search rules in
    let h = held _ _ _ _ (read d).answer (read d).table f t in
    let a = d.args in
    c.cheapest_read.ensures f.P h.0 h.2 ∙ reading-same a.set.now a.costs.now a.proof.now (program f.P) t s
    ∙ cheapest-read (length a.table.now) (length a.store.now) a.program.now a.set.now a.costs.now a.proof.now (read d).answer (read d).table f.P f.read
