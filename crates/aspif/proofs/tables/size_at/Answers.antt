use mir.Syntax.{w32}
use mathlib.Core.Path.{◌∙◌, ap}
use borrow.Author.Rules.{sfits_of}
use mir.Facts.{to_z-of_z}
use Rattle.words.specs.Literals.{variable}
use Rattle.aspif.proofs.tables.size_at.Goals as goal

pub returns : goal.returns
returns c = let w = c.word_at in c.variable_of.ensures ∙ ap variable (to_z-of_z {w = w32} (sfits_of {z = w.result} w.type_inv) ∙ w.ensures)
