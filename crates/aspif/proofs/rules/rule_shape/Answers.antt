use mathlib.Core.Path.{◌∙◌, sym}
use Rattle.aspif.specs.Reading.{shape_within}
use Rattle.aspif.proofs.rules.rule_shape.Goals as goal

pub returns-then-is_at-2 : goal.returns-then-is_at-2
unfolding shape_within
returns-then-is_at-2 c =
    let s = c in
    c.head_shape.ensures ∙ rw (sym s.is_at.ensures ∙ c.if-is_at.true, sym c.is_at-then-is_at.ensures ∙ c.if-is_at-2.true)

pub returns-then-is_at-3 : goal.returns-then-is_at-3
unfolding shape_within
returns-then-is_at-3 c =
    let d = c in
    c.head_shape-then-is_at-3.ensures
    ∙ rw (sym d.is_at.ensures ∙ d.if-is_at.true, sym d.is_at-then-is_at.ensures ∙ d.if-is_at-2.false, sym c.is_at-then-is_at-2.ensures ∙ c.if-is_at-3.true)

pub returns-else-is_at-3 : goal.returns-else-is_at-3
unfolding shape_within
returns-else-is_at-3 c =
    let d = c in
    rw (sym d.is_at.ensures ∙ d.if-is_at.true, sym d.is_at-then-is_at.ensures ∙ d.if-is_at-2.false, sym c.is_at-then-is_at-2.ensures ∙ c.if-is_at-3.false)

pub returns-else-is_at : goal.returns-else-is_at
unfolding shape_within
returns-else-is_at c =
    rw (sym c.is_at.ensures ∙ c.if-is_at.false)
