use mathlib.Core.Path.{◌≡◌, ◌∙◌, sym}
use borrow.Author.Rules.{sfits_of}
use lib.IntN.{pos}
use lib.ListN.{get_or}
use mir.Syntax.{w32}
use mir.Val.{to_z, of_z}
use mir.Facts.{to_z-of_z}
use Rattle.words.specs.Literals.{same}
use Rattle.aspif.proofs.tables.kind_of.Goals as goal
use Rattle.aspif.proofs.tables.kind_of.Goals.{After-is_same}

tells : (c : After-is_same) → same (get_or c.args.words.now 0 (pos 0)) (pos 1) ≡ c.is_same.result
tells c =
    let w = c.word_at in
    let e : to_z w32 (of_z w32 w.result) ≡ get_or c.args.words.now 0 (pos 0) = to_z-of_z {w = w32} (sfits_of {z = w.result} w.type_inv) ∙ w.ensures in
    sym (rw e at c.is_same.ensures)

pub returns-then-is_same : goal.returns-then-is_same
returns-then-is_same c = rw (tells (goal.at.returns-then-is_same c).After-is_same ∙ c.if-is_same.true)

pub returns : goal.returns
returns c = rw (tells (goal.at.returns c).After-is_same ∙ c.if-is_same.false)
