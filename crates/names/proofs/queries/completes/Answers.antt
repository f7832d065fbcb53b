use mathlib.Core.Path.{◌≡◌, sym, ◌∙◌}
use mathlib.Core.Bool.{◌&&◌}
use Rattle.words.specs.Literals.{same_list}
use Rattle.aspif.specs.Rules.{is_normal}
use Rattle.aspif.specs.Tables.{rule_at}
use Rattle.names.proofs.Asked.{completing-bodies}
use Rattle.names.proofs.queries.completes.Goals as goal
use Rattle.names.proofs.queries.completes.Goals.{After-is_normal_with}

tells : (c : After-is_normal_with)
    → (let a = c.args in
    let rule = rule_at a.rule.now.words.now in
    (is_normal rule.kind && same_list rule.heads a.heads.now) ≡ c.is_normal_with.result)
tells c = sym c.is_normal_with.ensures

pub returns-then-is_normal_with : goal.returns-then-is_normal_with
returns-then-is_normal_with c =
    let d = c in
    λ bodies called C t above e.
    rw (completing-bodies (rule_at _) called _ _, tells (goal.at.returns-then-is_normal_with c).After-is_normal_with ∙ d.if-is_normal_with.true) (c.is_named.ensures bodies called C t above e)

pub returns : goal.returns
returns c = λ bodies called C t above e. rw (completing-bodies (rule_at _) called _ _, tells (goal.at.returns c).After-is_normal_with ∙ c.if-is_normal_with.false)
