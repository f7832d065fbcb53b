use mathlib.Core.Path.{◌≡◌, sym, ◌∙◌}
use mir.Facts.{to_z-of_z}
use lib.IntN.{pos}
use lib.Signed.{lt_z}
use Rattle.names.proofs.queries.is_inside.Goals as goal
use Rattle.names.proofs.queries.is_inside.Goals.{After-is_positive}

tells : (c : After-is_positive) → lt_z (pos 0) c.args.word ≡ c.is_positive.result
tells c = sym (rw (to_z-of_z c.ranges.word) at c.is_positive.ensures)

pub returns-then-is_positive : goal.returns-then-is_positive
returns-then-is_positive c =
    let d = (goal.at.returns-then-is_positive c).After-is_positive in
    let s = c in
    rw (tells d ∙ c.if-is_positive.true) (rw (c.variable_of.ensures, to_z-of_z s.ranges.word) at c.is_marked.ensures)

pub returns : goal.returns
returns c = rw (tells (goal.at.returns c).After-is_positive ∙ c.if-is_positive.false)
