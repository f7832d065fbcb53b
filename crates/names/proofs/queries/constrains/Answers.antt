use mathlib.Core.Path.{◌≡◌, sym, ◌∙◌}
use mathlib.Core.Bool.{◌&&◌}
use mathlib.Core.List.{List, []}
use lib.IntN.{ℤ}
use Rattle.words.specs.Literals.{same_list}
use Rattle.aspif.specs.Rules.{InputRule, is_normal}
use Rattle.aspif.specs.Tables.{rule_at}
use Rattle.names.proofs.Asked.{normal-bodies}
use Rattle.names.proofs.queries.constrains.Goals as goal
use Rattle.names.proofs.queries.constrains.Goals.{After-is_normal_with}

module _ (c : After-is_normal_with) where
  abbrev body : List ℤ
  body = c.args.body.now

  abbrev rule : InputRule
  rule = rule_at c.args.rule.now.words.now

  -- what the call tells of it
  tells : (is_normal rule.kind && same_list rule.heads []) ≡ c.is_normal_with.result
  tells = sym c.is_normal_with.ensures

pub returns-then-is_normal_with : goal.returns-then-is_normal_with
returns-then-is_normal_with c =
    let d = (goal.at.returns-then-is_normal_with c).After-is_normal_with in
    rw (normal-bodies (rule d) [] (same_list (body d)), tells d ∙ c.if-is_normal_with.true) c.has_body.ensures

pub returns : goal.returns
returns c =
    let d = (goal.at.returns c).After-is_normal_with in
    rw (normal-bodies (rule d) [] (same_list (body d)), tells d ∙ c.if-is_normal_with.false)
