use mathlib.Core.Path.{◌≡◌, sym, ◌∙◌}
use lib.IntN.{pos}
use lib.ListN.{get_or}
use Rattle.words.proofs.Words.{back}
use Rattle.aspif.specs.Tables.{is_weighted}
use Rattle.aspif.proofs.tables.head_start.Goals as goal
use Rattle.aspif.proofs.tables.head_start.Goals.{After-is_same}

tells : (c : After-is_same) → is_weighted c.args.words.now ≡ c.is_same.result
tells c = sym (rw (back (get_or c.args.words.now 2 (pos 0)) c.is_same-arg-1.given) at c.is_same.ensures)

pub returns-then-is_same : goal.returns-then-is_same
returns-then-is_same c = rw (tells (goal.at.returns-then-is_same c).After-is_same ∙ c.if-is_same.true)

pub returns : goal.returns
returns c = rw (tells (goal.at.returns c).After-is_same ∙ c.if-is_same.false)
