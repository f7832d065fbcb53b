use mathlib.Core.Path.{◌≡◌, sym, ap, ◌∙◌}
use mathlib.Core.Bool.{true, or-false}
use native.Mathlib.Omega.{arith}
use lib.Dec.{eqb}
use lib.Seq.{length-take-le}
use Rattle.aspif.specs.Tables.{is_weighted, body_words_at}
use Rattle.aspif.proofs.SoundWeights.{Weighing, weighing}
use Rattle.names.proofs.Asked.{weight-bodies, plain-bodies, plain_entry, told-few, named-body, named_none}
use Rattle.names.proofs.queries.is_named.Goals as goal
use Rattle.names.proofs.queries.is_named.Goals.{After-is_weighted, Else-not-is_weighted}

tells : (c : After-is_weighted) → is_weighted c.args.rule.now.words.now ≡ c.is_weighted.result
tells c = sym c.is_weighted.ensures

pub returns-then-not-is_weighted : goal.returns-then-not-is_weighted
returns-then-not-is_weighted c =
    let p = tells (goal.at.returns-then-not-is_weighted c).After-is_weighted ∙ c.if-not-is_weighted.true in
    let a = c.args in
    λ bodies called C t above e.
    rw (plain-bodies _ p)
    (ap (λ n. eqb n a.name) (e ∙ plain_entry _ p called) ∙ sym (or-false (eqb (called (body_words_at a.rule.now.words.now)) a.name)))

-- a weight rule
module _ (c : Else-not-is_weighted) where
  weighted : is_weighted c.args.rule.now.words.now ≡ true
  weighted = tells c.before ∙ c.if-not-is_weighted.false

  weighs : Weighing c.args.rule.now.words.now
  weighs = weighing _ c.args.rule.now.sound weighted

pub slice_bounds-is_body-end : goal.slice_bounds-is_body-end
slice_bounds-is_body-end c =
    let d = c in
    let s = c in
    sym (length-take-le _ _ (omega (arith, told-few _ s.args.row.now s.args.name d.in-Some.is s.requires.row.1.1, s.requires.row.0)))

pub is_body-requires : goal.is_body-requires
is_body-requires c =
    let w = weighs (goal.at.is_body-requires c).Else-not-is_weighted in
    rw (c.bound.ensures, c.body.ensures) (w.bound, w.light, w.distinct)

pub returns-in-Some : goal.returns-in-Some
returns-in-Some c =
    let b = c in
    let d = (goal.at.returns-in-Some c).Else-not-is_weighted in
    λ bodies called C t above e.
    rw (weight-bodies _ (weighted d))
    ((rw (b.bound.ensures, b.body.ensures) at c.is_body.ensures)
    ∙ sym (named-body (weighs d) (C (weighted d)) above _ b.in-Some.is t))

pub returns-in-None : goal.returns-in-None
returns-in-None c =
    let d = (goal.at.returns-in-None c).Else-not-is_weighted in
    λ bodies called C t above e. rw (weight-bodies _ (weighted d)) (sym (named_none (weighs d) (C (weighted d)) above _ c.in-None.is t))
