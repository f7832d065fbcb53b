use mir.Syntax.{w32}
use mathlib.Core.Path.{◌≡◌, sym, ap, ◌∙◌}
use borrow.Author.Rules.{sfits_of}
use lib.IntN.{ℤ}
use mir.Facts.{to_z-of_z}
use Rattle.words.specs.Literals.{variable}
use Rattle.renaming.specs.Standing.{names_added}
use Rattle.renaming.proofs.Walk.{name-given, name-kept}
use Rattle.renaming.proofs.lines.name_after.Goals as goal
use Rattle.renaming.proofs.lines.name_after.Goals.{After-names_added}

-- the test
tested : (c : After-names_added) → (let a = c.args in c.names_added.result ≡ names_added a.x a.letter a.numbers.now)
tested c = let s = c in c.names_added.ensures ∙ ap (λ (x : ℤ). names_added x s.args.letter s.args.numbers.now) (to_z-of_z s.ranges.x)

pub returns-then-names_added : goal.returns-then-names_added
returns-then-names_added c =
    let k = (goal.at.returns-then-names_added c).After-names_added in
    let a = k.args in
    let w = c.word_at in
    c.variable_of.ensures ∙ (ap variable (to_z-of_z {w = w32} (sfits_of {z = w.result} w.type_inv) ∙ w.ensures)
    ∙ sym (name-given a.x a.name a.letter a.numbers.now (sym (tested k) ∙ c.if-names_added.true)))

pub returns : goal.returns
returns c =
    let k = (goal.at.returns c).After-names_added in
    let a = k.args in
    sym (name-kept a.x a.name a.letter a.numbers.now (sym (tested k) ∙ c.if-names_added.false))
