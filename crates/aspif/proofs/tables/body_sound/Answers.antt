use mathlib.Core.Path.{◌∙◌, sym}
use Rattle.aspif.specs.Tables.{body_sound}
use Rattle.aspif.proofs.tables.body_sound.Goals as goal

pub returns-then-is_weighted : goal.returns-then-is_weighted
unfolding body_sound
returns-then-is_weighted c = let d = c in rw (sym d.is_weighted.ensures ∙ d.if-is_weighted.true) c.weights_sound.ensures

pub returns : goal.returns
unfolding body_sound
returns c =
    let d = c in
    rw (sym d.is_weighted.ensures ∙ d.if-is_weighted.false, ← c.body_of.ensures) c.ascends_by_variable.ensures
