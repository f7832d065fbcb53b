-- `checker::check_long` meets its contract. The memory is zeros before and after the proof's lines.
-- Assumes nothing.
use mathlib.Core.Path.{◌≡◌, sym, ◌∙◌, ap, subst}
use mathlib.Core.List.{List}
use Prim.Native.Nat.{ℕ}
use native.Mathlib.Omega.{arith}
use lib.IntN.{pos}
use lib.ListN.{length, replicate}
use Rattle.words.specs.Limits.{widest}
use Rattle.words.proofs.Laws.{zeros}
use Rattle.aspif.specs.Reading.{ProgramRead}
use Rattle.nogoods.specs.Index.{BlankIndex}
use Rattle.nogoods.proofs.Indexing.{blank-index}
use Rattle.checker.proofs.Verdicts.{judged-lengths, program-refused, ReadProgram, program-read, check-read, held}
use borrow.Author.Rules.{rules}
use Rattle.checker.proofs.check_long.Goals as goal
use Rattle.checker.proofs.check_long.Goals.{In-Ok}

-- what was read, where a program is
module _ (c : In-Ok) where
  abbrev read : ProgramRead c.args.program.now c.args.table.now c.read_program-read.new.table c.read_program-read.result
  read = c.read_program-read.ensures

  found : ReadProgram (length c.args.table.now) (length c.args.store.now) c.args.program.now c.args.proof.now read.answer read.table c.in-Ok.field-0.atoms c.in-Ok.field-0.rules
  found = program-read _ _ _ _ read.answer read.table _ _ c.in-Ok.is

pub check_within-verdict-requires : goal.check_within-verdict-requires
check_within-verdict-requires c = let d = (goal.at.check_within-verdict-requires c).In-Ok in
    let h = held _ _ _ _ (read d).answer (read d).table (found d) (search rules) in record { limit = omega arith; program = (((found d).P, h.0), omega (arith, h.1)); empty = (zeros (pos 0) {n = length d.args.store.now} d.zero_all.ensures).0; cells = subst (λ (l : List ℕ). BlankIndex l) (sym d.zero_all-2.ensures) (blank-index (length d.args.memory.now)) }

pub returns-in-Err : goal.returns-in-Err
returns-in-Err c =
    let r = c.read_program-read.ensures in
    record {
      checked = program-refused _ _ _ _ r.answer r.table widest _ c.in-Err.is c.zero_all.ensures;
      clear = c.zero_all-2.ensures;
    }

pub returns-in-Ok : goal.returns-in-Ok
returns-in-Ok c =
    let d = (goal.at.returns-in-Ok c).In-Ok in
    let a : length d.read_program-read.new.table ≡ length d.args.table.now = search rules in
    let b : length d.zero_all.new.items ≡ length d.args.store.now = search rules in
    let m : length c.check_within-verdict.new.index ≡ length d.args.memory.now = search rules in
    let p = found d in
    let h = held _ _ _ _ (read d).answer (read d).table p a in
    record {
      checked =
          c.check_within-verdict.ensures p.P h.0 h.2 ∙ judged-lengths widest p.P d.args.proof.now a b
          ∙ sym (check-read _ _ _ _ (read d).answer (read d).table widest p);
      clear = c.zero_all-in-Ok.ensures ∙ ap (λ (n : ℕ). replicate n 0) m;
    }
