use mathlib.Core.Path.{sym, ap, ◌∙◌}
use Rattle.words.specs.Lists.{any}
use Rattle.aspif.specs.Rules.{expand}
use Rattle.aspif.proofs.Cursors.{rules_from_starts}
use Rattle.names.specs.Queries.{constraining}
use Rattle.names.proofs.ByRule.{no-plain-rules, one_passes, none_passes}
use Rattle.names.proofs.queries.is_constraint.Goals as goal

pub loop-rule-init : goal.loop-rule-init
loop-rule-init c =
    let a = c.args in
    rw (c.into_iter-rule-iterator.ensures.into_iter_gives, c.rules_in-rule-items.ensures.start.0, c.rules_in-rule-items.ensures.start.1)
    (ap (λ rs. any (constraining a.body.now) (expand rs)) (rules_from_starts a.rules a.table.now))

pub returns-then-constrains : goal.returns-then-constrains
returns-then-constrains c = λ ws H. rw (← H.are) (sym (c.loop-rule.invariant ∙ one_passes c.in-Some.ensures.steps _ (sym c.constrains.ensures ∙ c.if-constrains.true)))

pub loop-rule-preserved : goal.loop-rule-preserved
loop-rule-preserved c = c.loop-rule.invariant ∙ none_passes c.in-Some.ensures.steps _ (sym c.constrains.ensures ∙ c.if-constrains.false)

pub returns : goal.returns
returns c = λ ws H. rw (← H.are) (rw (c.loop-rule.invariant, no-plain-rules c.in-None.ensures.steps.0))
