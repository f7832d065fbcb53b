use mathlib.Core.Path.{◌≡◌, ◌∙◌}
use borrow.Author.Rules.{sfits_of}
use lib.IntN.{pos}
use lib.ListN.{get_or}
use mir.Syntax.{w32}
use mir.Val.{to_z, of_z}
use mir.Facts.{to_z-of_z}
use Rattle.aspif.proofs.tables.is_weighted.Goals as goal

pub returns : goal.returns
returns c =
    let w = c.word_at in
    let e : to_z w32 (of_z w32 w.result) ≡ get_or c.args.words.now 2 (pos 0) = to_z-of_z {w = w32} (sfits_of {z = w.result} w.type_inv) ∙ w.ensures in
    rw e at c.is_same.ensures
