use mathlib.Core.Path.{◌∙◌, ap}
use mir.Facts.{to_z-of_z}
use Rattle.words.specs.Literals.{variable}
use Rattle.aspif.proofs.tables.is_weight.Goals as goal

pub returns-then-word-ge0 : goal.returns-then-word-ge0
returns-then-word-ge0 c =
    let e = to_z-of_z c.ranges.word in
    rw (c.variable_of.ensures ∙ ap variable e, rw e at c.if-word-ge0.true)

pub returns-else-word-ge0 : goal.returns-else-word-ge0
returns-else-word-ge0 c = rw (rw (to_z-of_z c.ranges.word) at c.if-word-ge0.false)
