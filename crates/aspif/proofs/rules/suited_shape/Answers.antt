use mathlib.Core.Path.{◌∙◌, sym}
use Rattle.aspif.proofs.rules.suited_shape.Goals as goal

pub returns-then-suits_kind : goal.returns-then-suits_kind
returns-then-suits_kind c = rw (sym c.suits_kind.ensures ∙ c.if-suits_kind.true)

pub returns : goal.returns
returns c = rw (sym c.suits_kind.ensures ∙ c.if-suits_kind.false)
