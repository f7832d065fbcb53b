use mathlib.Core.Path.{◌≡◌, sym, ap, ◌∙◌}
use mathlib.Core.Bool.{or-false}
use Rattle.aspif.specs.Tables.{is_weighted}
use Rattle.aspif.proofs.SoundWeights.{weighing}
use Rattle.words.proofs.Lists.{if-true}
use Rattle.words.proofs.Literals.{same_list-decides}
use Rattle.names.proofs.Asked.{weight-bodies, plain-bodies, plain_entry, body-short, one_of}
use Rattle.names.proofs.queries.name_at.Goals as goal
use Rattle.names.proofs.queries.name_at.Goals.{After-is_weighted}

tells : (c : After-is_weighted) → is_weighted c.args.rule.now.words.now ≡ c.is_weighted.result
tells c = sym c.is_weighted.ensures

pub name_of-requires : goal.name_of-requires
name_of-requires c =
    let s = c in
    let e = tells (goal.at.name_of-requires c).After-is_weighted ∙ c.if-is_weighted.true in
    body-short s.args.body.now (weighing _ s.args.rule.now.sound e) (one_of (rw (weight-bodies _ e) at s.requires))

pub returns-then-is_weighted : goal.returns-then-is_weighted
returns-then-is_weighted c = λ called C e. c.name_of.ensures called (C (tells (goal.at.returns-then-is_weighted c).After-is_weighted ∙ c.if-is_weighted.true))

pub returns : goal.returns
returns c =
    let s = c in
    let p = tells (goal.at.returns c).After-is_weighted ∙ c.if-is_weighted.false in
    let b = if-true (same_list-decides _ _) (sym (or-false _) ∙ (rw (plain-bodies _ p) at s.requires)) in
    λ called C e. e ∙ plain_entry _ p called ∙ ap called (sym b)
