use mathlib.Core.Path.{◌∙◌, sym}
use Rattle.aspif.proofs.rules.body_shape.Goals as goal

pub returns-then-is_at : goal.returns-then-is_at
returns-then-is_at c = c.plain_shape.ensures ∙ rw (sym c.is_at.ensures ∙ c.if-is_at.true)

pub returns-then-is_at-2 : goal.returns-then-is_at-2
returns-then-is_at-2 c =
    let d = c in
    c.weighed_shape.ensures ∙ rw (sym d.is_at.ensures ∙ d.if-is_at.false, sym c.is_at-2.ensures ∙ c.if-is_at-2.true)

pub returns : goal.returns
returns c =
    let d = c in
    rw (sym d.is_at.ensures ∙ d.if-is_at.false, sym c.is_at-2.ensures ∙ c.if-is_at-2.false)
