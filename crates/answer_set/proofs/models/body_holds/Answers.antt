use mathlib.Core.Path.{◌≡◌, sym, ◌∙◌}
use Rattle.aspif.specs.Tables.{is_weighted, body_at}
use Rattle.aspif.proofs.SoundWeights.{weighing}
use Rattle.answer_set.proofs.models.body_holds.Goals as goal
use Rattle.answer_set.proofs.models.body_holds.Goals.{After-is_weighted}

-- the call tells of the body's kind
tells : (c : After-is_weighted) → is_weighted c.args.rule.now.words.now ≡ c.is_weighted.result
tells c = sym c.is_weighted.ensures

pub sum_held-requires : goal.sum_held-requires
sum_held-requires c =
    let d = (goal.at.sum_held-requires c).After-is_weighted in
    rw c.body.ensures (weighing _ d.args.rule.now.sound (tells d ∙ c.if-is_weighted.true)).light

pub returns-then-is_weighted : goal.returns-then-is_weighted
unfolding body_at
returns-then-is_weighted c =
    let d = (goal.at.returns-then-is_weighted c).After-is_weighted in
    rw (tells d ∙ c.if-is_weighted.true, c.bound.ensures, ← c.body.ensures, c.sum_held.ensures)

pub returns : goal.returns
unfolding body_at
returns c =
    let d = (goal.at.returns c).After-is_weighted in
    rw (tells d ∙ c.if-is_weighted.false, ← c.body-2.ensures) c.all_hold.ensures
