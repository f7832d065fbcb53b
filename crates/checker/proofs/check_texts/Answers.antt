use mathlib.Core.Path.{◌≡◌, sym, ◌∙◌}
use native.Mathlib.Omega.{arith}
use lib.IntN.{pos}
use lib.ListN.{length}
use Rattle.words.specs.Limits.{longest}
use Rattle.words.proofs.Laws.{zeros}
use Rattle.aspif.specs.Reading.{ProgramRead}
use Rattle.checker.proofs.Verdicts.{judged-lengths, program-refused, ReadProgram, program-read, check-read, held}
use borrow.Author.Rules.{rules}
use Rattle.checker.proofs.check_texts.Goals as goal
use Rattle.checker.proofs.check_texts.Goals.{In-Ok}

-- what was read, where a program is
module _ (c : In-Ok) where
  abbrev read : ProgramRead c.args.program.now c.args.table.now c.read_program-read.new.table c.read_program-read.result
  read = c.read_program-read.ensures

  found : ReadProgram (length c.args.table.now) (length c.args.store.now) c.args.program.now c.args.proof.now read.answer read.table c.in-Ok.field-0.atoms c.in-Ok.field-0.rules
  found = program-read _ _ _ _ read.answer read.table _ _ c.in-Ok.is

pub check_proof-requires : goal.check_proof-requires
check_proof-requires c = let d = (goal.at.check_proof-requires c).In-Ok in
    let h = held _ _ _ _ (read d).answer (read d).table (found d) (search rules) in record { program = (((found d).P, h.0), omega (arith, h.1)); empty = (zeros (pos 0) {n = length d.args.store.now} c.zero_all.ensures).0 }

pub returns-in-Err : goal.returns-in-Err
returns-in-Err c =
    let r = c.read_program-read.ensures in
    program-refused _ _ _ _ r.answer r.table longest _ c.in-Err.is c.zero_all.ensures

pub returns-in-Ok : goal.returns-in-Ok
returns-in-Ok c =
    let d = (goal.at.returns-in-Ok c).In-Ok in
    let a : length d.read_program-read.new.table ≡ length d.args.table.now = search rules in
    let b : length c.zero_all.new.items ≡ length d.args.store.now = search rules in
    let p = found d in
    let h = held _ _ _ _ (read d).answer (read d).table p a in
    c.check_proof.ensures p.P h.0 h.2 ∙ judged-lengths longest p.P d.args.proof.now a b ∙ sym (check-read _ _ _ _ (read d).answer (read d).table longest p)
