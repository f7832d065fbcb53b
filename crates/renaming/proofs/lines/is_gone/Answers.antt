use mir.Syntax.{w32}
use mathlib.Core.Path.{◌≡◌, ap, ◌∙◌}
use borrow.Author.Rules.{sfits_of}
use mir.Facts.{to_z-of_z}
use Rattle.words.specs.Literals.{variable}
use Rattle.renaming.specs.Standing.{first_name}
use Rattle.renaming.proofs.lines.is_gone.Goals as goal
use Rattle.renaming.proofs.lines.is_gone.Goals.{After-variable_of-first}

-- the variable that the line begins with
first-is : (c : After-variable_of-first) → c.variable_of-first.result ≡ first_name c.args.numbers.now
first-is c = let w = c.word_at in c.variable_of-first.ensures ∙ ap variable (to_z-of_z {w = w32} (sfits_of {z = w.result} w.type_inv) ∙ w.ensures)

pub returns-in-Body : goal.returns-in-Body
returns-in-Body c = rw (c.in-Body.is, ← first-is (goal.at.returns-in-Body c).After-variable_of-first) c.is_marked.ensures

pub returns-in-Completion : goal.returns-in-Completion
returns-in-Completion c = rw (c.in-Completion.is, ← first-is (goal.at.returns-in-Completion c).After-variable_of-first) c.is_alone.ensures
