use mathlib.Core.Path.{◌≡◌, ◌∙◌, sym}
use lib.IntN.{pos}
use lib.ListN.{get_or}
use mir.Syntax.{w32}
use mir.Val.{to_z, of_z}
use mir.Facts.{to_z-of_z}
use borrow.Author.Rules.{sfits_of}
use Rattle.aspif.specs.Tables.{is_kind}
use Rattle.aspif.proofs.tables.is_headed.Goals as goal
use Rattle.aspif.proofs.tables.is_headed.Goals.{After-is_kind}

-- what the call tells of the first word
kind : (c : After-is_kind) → is_kind (get_or c.args.words.now 0 (pos 0)) ≡ c.is_kind.result
kind c =
    let w = c.word_at in
    let e : to_z w32 (of_z w32 w.result) ≡ get_or c.args.words.now 0 (pos 0) = to_z-of_z {w = w32} (sfits_of {z = w.result} w.type_inv) ∙ w.ensures in
    sym (rw e at c.is_kind.ensures)

pub returns-then-is_kind : goal.returns-then-is_kind
returns-then-is_kind c =
    let d = c in
    c.suits_kind.ensures ∙ rw (kind (goal.at.returns-then-is_kind c).After-is_kind ∙ d.if-is_kind.true, d.kind_of.ensures, c.size_at.ensures)

pub returns : goal.returns
returns c = rw (kind (goal.at.returns c).After-is_kind ∙ c.if-is_kind.false)
