use mathlib.Core.Path.{◌∙◌}
use Prim.Native.Nat.{◌-◌}
use Rattle.aspif.specs.Tables.{rules_at}
use Rattle.marks.specs.Marks.{marked}
use Rattle.answer_set.proofs.Marking.{rounds-on, last-round}
use Rattle.answer_set.proofs.models.close.Goals as goal

pub returns-then-not-give_all : goal.returns-then-not-give_all
returns-then-not-give_all c =
    let a = c.args in
    last-round (marked a.inside.now) (a.most - c.loop.counter) (rules_at a.rules a.table.now) c.loop.invariant c.give_all.ensures c.if-not-give_all.true

pub loop-preserved : goal.loop-preserved
loop-preserved c =
    let l = c.loop in
    l.invariant ∙ rounds-on _ c.args.most l.counter _ l.marks c.loop-test.true ∙ rw c.give_all.ensures.marks
