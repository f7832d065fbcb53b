use mathlib.Core.Path.{sym, ◌∙◌}
use Rattle.names.proofs.queries.is_normal_with.Goals as goal

pub returns-then-is_normal : goal.returns-then-is_normal
returns-then-is_normal c =
    let h = c in
    let t = c in
    rw (sym t.is_normal.ensures ∙ t.if-is_normal.true) (rw h.heads.ensures at c.is_same_list.ensures)

pub returns : goal.returns
returns c = rw (sym c.is_normal.ensures ∙ c.if-is_normal.false)
