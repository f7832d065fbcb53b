use mathlib.Core.Path.{◌≡◌, sym, ◌∙◌}
use mathlib.Core.Bool.{false}
use Rattle.words.specs.Literals.{same_list}
use Rattle.aspif.specs.Tables.{is_weighted, body_words_at}
use Rattle.names.proofs.Asked.{weight-entry, plain_entry}
use Rattle.names.proofs.queries.name_for.Goals as goal
use Rattle.names.proofs.queries.name_for.Goals.{After-is_weighted, After-is_same_list}

weighted : (c : After-is_weighted) → is_weighted c.args.rule.now.words.now ≡ c.is_weighted.result
weighted c = sym c.is_weighted.ensures

pub returns-then-is_weighted : goal.returns-then-is_weighted
returns-then-is_weighted c = let p = weighted (goal.at.returns-then-is_weighted c).After-is_weighted ∙ c.if-is_weighted.true in λ called e. e ∙ weight-entry _ p called ∙ sym (weight-entry _ p _)

-- what the calls tell of a plain rule
module _ (c : After-is_same_list) where
  plain : is_weighted c.args.rule.now.words.now ≡ false
  plain = let d = c in weighted c.before.before.before ∙ d.if-is_weighted.false

  tells : (let a = c.args in same_list a.body.now (body_words_at a.rule.now.words.now) ≡ c.is_same_list.result)
  tells = sym (rw c.body.ensures at c.is_same_list.ensures)

pub returns-then-is_same_list : goal.returns-then-is_same_list
returns-then-is_same_list c = let d = (goal.at.returns-then-is_same_list c).After-is_same_list in λ called e. rw (plain_entry _ (plain d) _, tells d ∙ c.if-is_same_list.true)

pub returns : goal.returns
returns c = let d = (goal.at.returns c).After-is_same_list in λ called e. rw (plain_entry _ (plain d) _, tells d ∙ c.if-is_same_list.false) (e ∙ plain_entry _ (plain d) called)
