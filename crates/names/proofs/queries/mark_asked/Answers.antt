use mathlib.Core.Path.{◌≡◌, sym, ◌∙◌}
use mathlib.Core.Bool.{true, false}
use Rattle.words.specs.Lists.{any}
use Rattle.aspif.specs.Tables.{is_weighted, heads_at, body_words_at, rule_at}
use Rattle.aspif.proofs.SoundWeights.{weighing}
use Rattle.names.specs.Queries.{is_inside, asks_heads}
use Rattle.names.proofs.Choosing.{also-none, also_one}
use Rattle.names.proofs.Asked.{asked-bodies, weight-bodies, plain-bodies, plain_entry}
use Rattle.names.proofs.queries.mark_asked.Goals as goal
use Rattle.names.proofs.queries.mark_asked.Goals.{After-asks_heads, After-is_weighted, After-any_inside}
use Rattle.names.proofs.queries.mark_asked.Lts.View as view
use Rattle.names.proofs.queries.mark_asked.Reads as reads
use Rattle.names.proofs.queries.mark_asked.Tie as tie

heads : (c : After-asks_heads)
    → (let a = c.args in asks_heads a.query a.inside.now (heads_at a.rule.now.words.now) ≡ c.asks_heads.result)
heads c = sym c.asks_heads.ensures

pub returns-then-not-asks_heads : goal.returns-then-not-asks_heads
returns-then-not-asks_heads c = λ called C e. rw (asked-bodies (rule_at _) _ _ called, heads (goal.at.returns-then-not-asks_heads c).After-asks_heads ∙ c.if-not-asks_heads.true) (also-none _)

-- the query asks for the heads
module _ (c : After-is_weighted) where
  weighted : is_weighted c.args.rule.now.words.now ≡ c.is_weighted.result
  weighted = sym c.is_weighted.ensures

  asked : (let a = c.args in asks_heads a.query a.inside.now (heads_at a.rule.now.words.now) ≡ true)
  asked = heads (view.up-After-asks_heads tie.the-claims reads.Pre reads.Post tie.handed_clauses c.before.before.before) ∙ c.if-not-asks_heads.false

pub mark_bodies-requires : goal.mark_bodies-requires
mark_bodies-requires c =
    let d = c in
    let s = c in
    let w = weighing _ s.args.rule.now.sound (weighted (goal.at.mark_bodies-requires c).After-is_weighted ∙ d.if-is_weighted.true) in
    rw (c.bound.ensures, c.body.ensures) (w.bound, w.few, w.light, w.rises, s.requires.found)

pub returns-then-is_weighted : goal.returns-then-is_weighted
returns-then-is_weighted c =
    let b = c in
    let d = c in
    λ called C e.
    rw (asked-bodies (rule_at _) _ _ called, asked (goal.at.returns-then-is_weighted c).After-is_weighted, weight-bodies _ (weighted (goal.at.returns-then-is_weighted c).After-is_weighted ∙ d.if-is_weighted.true))
    (rw (b.bound.ensures, b.body.ensures) at (b.mark_bodies.ensures called (C (weighted (goal.at.returns-then-is_weighted c).After-is_weighted ∙ d.if-is_weighted.true))))

-- a plain rule
module _ (c : After-any_inside) where
  plain : is_weighted c.args.rule.now.words.now ≡ false
  plain = let d = c in weighted (view.up-After-is_weighted tie.the-claims reads.Pre reads.Post tie.handed_clauses c.before.before.before.before) ∙ d.if-is_weighted.false

  inside : (let a = c.args in
      any (is_inside a.inside.now) (body_words_at a.rule.now.words.now) ≡ c.any_inside.result)
  inside = sym (rw c.body-2.ensures at c.any_inside.ensures)

pub returns-then-not-any_inside : goal.returns-then-not-any_inside
returns-then-not-any_inside c =
    let m = c in
    let d = c in
    let s = c in
    let p = plain (goal.at.returns-then-not-any_inside c).After-any_inside in
    let out = inside (goal.at.returns-then-not-any_inside c).After-any_inside ∙ d.if-not-any_inside.true in
    λ called C e.
    rw (asked-bodies (rule_at _) _ _ called, asked (goal.at.returns-then-not-any_inside c).After-is_weighted, plain-bodies _ p, out)
    (also_one s.requires.found m.mark.ensures.marks (m.from.ensures ∙ e ∙ plain_entry _ p called))

pub returns-else-not-any_inside : goal.returns-else-not-any_inside
returns-else-not-any_inside c =
    let d = (goal.at.returns-else-not-any_inside c).After-any_inside in
    λ called C e.
    rw (asked-bodies (rule_at _) _ _ called, asked (goal.at.returns-else-not-any_inside c).After-is_weighted, plain-bodies _ (plain d), inside d ∙ c.if-not-any_inside.false)
    (also-none _)
