use mathlib.Core.Path.{◌≡◌, sym, ap, ◌∙◌}
use Rattle.words.specs.Lists.{any}
use Rattle.aspif.specs.Tables.{body_words_at}
use Rattle.names.specs.Queries.{is_inside}
use Rattle.heads.proofs.Externals.{rule-inside, rule-noted}
use Rattle.heads.proofs.gather_rule.Goals as goal
use Rattle.heads.proofs.gather_rule.Goals.{After-any_inside}

tells : (c : After-any_inside)
    → (let a = c.args in any (is_inside a.inside.now) (body_words_at a.rule.now.words.now) ≡ c.any_inside.result)
tells c = sym (c.any_inside.ensures ∙ ap (any (is_inside c.args.inside.now)) c.body.ensures)

pub returns-then-any_inside : goal.returns-then-any_inside
returns-then-any_inside c =
    let b = (goal.at.returns-then-any_inside c).After-any_inside in
    let a = b.args in
    λ t rules names k w e h i C.
    rule-inside t rules names a.inside.now a.row.now a.n k C (ap (λ ws. any (is_inside a.inside.now) (body_words_at ws)) (sym w) ∙ tells b ∙ c.if-any_inside.true)

pub returns-then-name-eq0 : goal.returns-then-name-eq0
returns-then-name-eq0 c =
    let d = c in
    let b = (goal.at.returns-then-name-eq0 c).After-any_inside in
    let a = b.args in
    λ t rules names k w e h i C.
    (k, (h, i, ap (λ ws. any (is_inside a.inside.now) (body_words_at ws)) (sym w) ∙ tells b ∙ d.if-any_inside.false), sym e ∙ c.if-name-eq0.true)

pub returns : goal.returns
returns c =
    let n = c.note in
    let d = c in
    let b = (goal.at.returns c).After-any_inside in
    let a = b.args in
    λ t rules names k w e h i C.
    rule-noted t rules names a.inside.now a.row.now a.n k (h, i, ap (λ ws. any (is_inside a.inside.now) (body_words_at ws)) (sym w) ∙ tells b ∙ d.if-any_inside.false) e C n.ensures.row n.ensures.same
