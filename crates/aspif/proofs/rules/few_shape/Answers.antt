use mathlib.Core.Path.{◌∙◌, sym}
use borrow.Author.Tests.{not-true, not-false}
use lib.Dec.{leb}
use Rattle.aspif.proofs.rules.few_shape.Goals as goal

pub returns-then-not-ranged : goal.returns-then-not-ranged
returns-then-not-ranged c = rw (sym c.is_ranged-ranged.ensures ∙ not-true c.is_ranged-ranged.result c.if-not-ranged.true-raw)

pub returns-then-not-few : goal.returns-then-not-few
returns-then-not-few c =
    let d = c in
    rw (sym d.is_ranged-ranged.ensures ∙ d.if-not-ranged.false, not-true (leb d.args.body d.args.most) c.if-not-few.true-raw)

pub returns : goal.returns
returns c =
    let d = c in
    c.suited_shape.ensures ∙ rw (sym d.is_ranged-ranged.ensures ∙ d.if-not-ranged.false, not-false (leb d.args.body d.args.most) c.if-not-few.false-raw)
