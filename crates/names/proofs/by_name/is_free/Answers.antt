-- `by_name::is_free` meets its contract: the word at the place decides.
-- Assumes nothing.
use mathlib.Core.Path.{◌∙◌}
use mir.Facts.{to_z-of_z}
use mir.Syntax.{w32}
use borrow.Author.Rules.{sfits_of}
use Rattle.names.proofs.by_name.is_free.Goals as goal

pub returns : goal.returns
returns c =
    let w = c.word_of in
    let word = to_z-of_z {w = w32} (sfits_of {z = w.result} w.type_inv) ∙ w.ensures in
    rw word at c.is_same.ensures
