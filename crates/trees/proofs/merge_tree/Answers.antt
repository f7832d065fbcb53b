use mathlib.Core.Path.{◌≡◌, ◌∙◌}
use lib.IntN.{pos}
use lib.ListN.{length}
use Rattle.words.proofs.Laws.{zeros}
use Rattle.aspif.specs.Reading.{ProgramRead, program}
use Rattle.aspif.proofs.Shorter.{read-shorter}
use Rattle.checker.proofs.Verdicts.{handed-on, ReadProgram, program-read, held}
use Rattle.trees.proofs.Answers.{unread-tree, tree-read, tree-reading-same}
use borrow.Author.Rules.{rules}
use Rattle.trees.proofs.merge_tree.Goals as goal
use Rattle.trees.proofs.merge_tree.Goals.{In_ok-atoms}

-- what was read, where a program is
module _ (c : In_ok-atoms) where
  abbrev read : ProgramRead c.args.program.now c.args.table.now c.read_program.new.table c.read_program.result
  read = c.read_program.ensures

  found : ReadProgram (length c.args.table.now) (length c.args.store.now) c.args.program.now c.args.texts.now read.answer read.table c.in_ok-atoms.field-0.atoms c.in_ok-atoms.field-0.rules
  found = program-read _ _ _ _ read.answer read.table _ _ c.in_ok-atoms.was

pub merge_read-requires : goal.merge_read-requires
merge_read-requires c = let d = (goal.at.merge_read-requires c).In_ok-atoms in
    let f = found d in
    let h = held _ _ _ _ (read d).answer (read d).table f (search rules) in record { program = ((f.P, h.0), h.1); short = rw h.0.holds.are (read-shorter _ _ f.P f.read); empty = ((zeros (pos 0) {n = length d.args.store.now} c.zero_all.ensures).0, (zeros 0 {n = length d.args.output.now} c.zero_all-2.ensures).0) }

pub returns-in_err-atoms : goal.returns-in_err-atoms
returns-in_err-atoms c =
    let r = c.read_program.ensures in
    rw (handed-on _ c.from_residual.ensures.1) (unread-tree _ _ _ _ _ _ _ r.answer r.table _ c.in_err-atoms.was c.zero_all.ensures c.zero_all-2.ensures)

pub returns : goal.returns
returns c =
    let d = (goal.at.returns c).In_ok-atoms in
    let f = found d in
    let t : length d.read_program.new.table ≡ length d.args.table.now = search rules in
    let s : length c.zero_all.new.items ≡ length d.args.store.now = search rules in
    let o : length c.zero_all-2.new.items ≡ length d.args.output.now = search rules in
    let h = held _ _ _ _ (read d).answer (read d).table f t in
    let a = d.args in
    c.merge_read.ensures f.P h.0 h.2 ∙ tree-reading-same a.tree.now a.texts.now a.lengths.now (program f.P) t s o
    ∙ tree-read (length a.table.now) (length a.store.now) (length a.output.now) a.program.now a.tree.now a.texts.now a.lengths.now (read d).answer (read d).table f.P f.read
