use mathlib.Core.Path.{◌∙◌, sym}
use Rattle.aspif.specs.Tables.{body_at}
use Rattle.aspif.proofs.tables.body_top.Goals as goal

pub returns-then-is_weighted : goal.returns-then-is_weighted
unfolding body_at
returns-then-is_weighted c =
    let d = c in
    rw (sym d.is_weighted.ensures ∙ d.if-is_weighted.true, ← c.body_of.ensures) c.pairs_top.ensures

pub returns : goal.returns
unfolding body_at
returns c =
    let d = c in
    rw (sym d.is_weighted.ensures ∙ d.if-is_weighted.false, ← c.body_of-2.ensures) c.largest_variable.ensures
