use mathlib.Core.Path.{◌≡◌, sym, ◌∙◌}
use mathlib.Core.Bool.{or-false}
use Rattle.aspif.specs.Tables.{is_weighted}
use Rattle.aspif.proofs.SoundWeights.{weighing}
use Rattle.names.proofs.Asked.{weight-bodies, plain-bodies}
use Rattle.names.proofs.queries.has_body.Goals as goal
use Rattle.names.proofs.queries.has_body.Goals.{After-is_weighted}

tells : (c : After-is_weighted) → is_weighted c.args.rule.now.words.now ≡ c.is_weighted.result
tells c = sym c.is_weighted.ensures

pub is_body-requires : goal.is_body-requires
is_body-requires c =
    let d = c in
    let w = weighing _ d.args.rule.now.sound (tells (goal.at.is_body-requires c).After-is_weighted ∙ d.if-is_weighted.true) in
    rw (c.bound.ensures, c.body.ensures) (w.bound, w.light, w.distinct)

pub returns-then-is_weighted : goal.returns-then-is_weighted
returns-then-is_weighted c =
    let b = c in
    let d = c in
    rw (weight-bodies _ (tells (goal.at.returns-then-is_weighted c).After-is_weighted ∙ d.if-is_weighted.true)) (rw (b.bound.ensures, b.body.ensures) at c.is_body.ensures)

pub returns : goal.returns
returns c =
    let d = c in
    rw (plain-bodies _ (tells (goal.at.returns c).After-is_weighted ∙ d.if-is_weighted.false)) ((rw c.body-2.ensures at c.is_same_list.ensures) ∙ sym (or-false _))
