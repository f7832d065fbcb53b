use mathlib.Core.Path.{sym, ap, ◌∙◌}
use native.Mathlib.Omega.{arith}
use Prim.Native.Nat.{ℕ, ◌-◌}
use lib.ListN.{length}
use Rattle.aspif.specs.Tables.{rules_at}
use Rattle.sums.specs.Levels.{split_program, sorted_groups}
use Rattle.long_sums.specs.Service.{split_to}
use Rattle.long_sums.proofs.Answers.{bad-size, good-size, size-asked}
use Rattle.long_sums.proofs.split_table.Goals as goal

pub returns-then-group : goal.returns-then-group
returns-then-group c = let s = c in c.refuse.ensures ∙ (rw (bad-size s.args.group c.if-group.true))

pub write_program-written-requires : goal.write_program-written-requires
write_program-written-requires c = let s = c in
    let p = s.requires in record { rules = (p.held, p.few); atoms = (p.atom, p.low); group = good-size s.args.group c.if-group.false }

pub finish-requires : goal.finish-requires
finish-requires c = let w = c.write_program-written.ensures in λ h. omega (arith, w.atom h)

pub returns : goal.returns
returns c =
    let s = c in
    let w = c.write_program-written in
    let p = s.requires in
    let rs = split_program (sorted_groups (s.args.group - 1)) (rules_at s.args.rules s.args.table.now) in
    let n = w.auto.output in
    let f = c.finish.ensures (rules_at s.args.rules s.args.table.now) rs s.args.output.now w.ensures (sym n) p.words p.atom in
    f ∙ ap (λ (o : ℕ). split_to (length s.args.table.now) o (rules_at s.args.rules s.args.table.now) rs) n ∙ (rw (size-asked s.args.group (good-size s.args.group c.if-group.false)))
