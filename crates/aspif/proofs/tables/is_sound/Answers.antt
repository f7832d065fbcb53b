use mathlib.Core.Path.{◌≡◌, sym, ◌∙◌}
use mathlib.Core.Bool.{true}
use mathlib.Core.List.{List, map}
use lib.IntN.{ℤ, pos}
use lib.Signed.{lt_z}
use Rattle.words.specs.Limits.{largest}
use Rattle.words.specs.Lists.{all, ascends}
use Rattle.words.specs.Literals.{variable}
use Rattle.aspif.specs.Tables.{heads_at, shape_sound, sound_at}
use Rattle.aspif.proofs.tables.is_sound.Goals as goal
use Rattle.aspif.proofs.tables.is_sound.Goals.{Then-is_shaped, After-heads_of-heads, After-all_positive, After-ascends_by_variable}

shape : (c : Then-is_shaped) → shape_sound c.args.words.now ≡ true
shape c = sym c.is_shaped.ensures ∙ c.if-is_shaped.true

abbrev ws : After-heads_of-heads → List ℤ
ws c = c.args.words.now

-- what the calls tell of the heads
positive : (c : After-all_positive) → all (λ h. lt_z (pos 0) h) (heads_at (ws c.before)) ≡ c.all_positive.result
positive c = sym (rw c.heads_of-heads.ensures at c.all_positive.ensures)

ascending : (c : After-ascends_by_variable) → ascends 0 largest (map variable (heads_at (ws c.before.before.before))) ≡ c.ascends_by_variable.result
ascending c = sym (rw c.heads_of-heads.ensures at c.ascends_by_variable.ensures)

pub heads_of-heads-requires : goal.heads_of-heads-requires
heads_of-heads-requires c = shape c

pub body_sound-requires : goal.body_sound-requires
body_sound-requires c = shape (goal.at.body_sound-requires c).Then-is_shaped

pub returns-then-ascends_by_variable : goal.returns-then-ascends_by_variable
unfolding sound_at
returns-then-ascends_by_variable c =
    let d = (goal.at.returns-then-ascends_by_variable c).After-ascends_by_variable in
    let o = (goal.at.returns-then-ascends_by_variable c).After-all_positive in
    rw (shape (goal.at.returns-then-ascends_by_variable c).Then-is_shaped, positive o ∙ d.if-all_positive.true, ascending d ∙ c.if-ascends_by_variable.true) c.body_sound.ensures

pub returns-else-ascends_by_variable : goal.returns-else-ascends_by_variable
unfolding sound_at
returns-else-ascends_by_variable c =
    let d = (goal.at.returns-else-ascends_by_variable c).After-ascends_by_variable in
    let o = (goal.at.returns-else-ascends_by_variable c).After-all_positive in
    rw (shape (goal.at.returns-else-ascends_by_variable c).Then-is_shaped, positive o ∙ d.if-all_positive.true, ascending d ∙ c.if-ascends_by_variable.false)

pub returns-else-all_positive : goal.returns-else-all_positive
unfolding sound_at
returns-else-all_positive c = rw (shape (goal.at.returns-else-all_positive c).Then-is_shaped, positive (goal.at.returns-else-all_positive c).After-all_positive ∙ c.if-all_positive.false)

pub returns-else-is_shaped : goal.returns-else-is_shaped
unfolding sound_at
returns-else-is_shaped c = rw (sym c.is_shaped.ensures ∙ c.if-is_shaped.false)
