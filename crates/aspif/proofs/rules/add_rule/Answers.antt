use mathlib.Core.Path.{◌≡◌, ap₂, sym, ◌∙◌}
use Prim.Native.Nat.{◌+◌, ◌-◌, max}
use native.Mathlib.Omega.{arith}
use borrow.Author.Tests.{leb-true, leb-false}
use lib.ListN.{length}
use Rattle.words.specs.Literals.{top}
use Rattle.aspif.specs.Rules.{InputRule, rule_words}
use Rattle.aspif.specs.Turns.{row_heads, row_body, row_rule}
use Rattle.aspif.proofs.Rows.{row-rule-size, turn-full, turn-short, turn-adds}
use Rattle.aspif.proofs.rules.add_rule.Goals as goal
use Rattle.aspif.proofs.rules.add_rule.Goals.{Start, After-largest_variable-b}

-- the rule that stands in the row, and how many words it takes
module _ (s : Start) where
  abbrev rule : InputRule
  rule = row_rule s.args.row.now s.args.kind s.args.heads s.args.body

  size : length (rule_words rule) ≡ 4 + s.args.heads + s.args.body
  size = row-rule-size s.args.row.now s.args.kind s.args.heads s.args.body s.requires.sizes.2

-- the largest variable of the heads and of the body
module _ (c : After-largest_variable-b) where
  in-heads : c.largest_variable-a.result ≡ top (row_heads c.args.row.now c.args.heads)
  in-heads = let e : 3 + c.args.heads - 3 ≡ c.args.heads = omega arith in rw e at c.largest_variable-a.ensures

  in_body : c.largest_variable-b.result ≡ top (row_body c.args.row.now c.args.heads c.args.body)
  in_body =
      let a = c.args in
      let e : 5 + a.heads + a.body - (5 + a.heads) ≡ a.body = omega arith in
      rw e at c.largest_variable-b.ensures

pub returns-then-is_full : goal.returns-then-is_full
returns-then-is_full c =
    let s = (goal.at.returns-then-is_full c).Start in
    let a = s.args in
    turn-full (rule s) _ (size s) a.free.now a.rules a.next (leb-true _ _ (sym c.is_full.ensures ∙ c.if-is_full.true))

pub returns-then-free-size : goal.returns-then-free-size
returns-then-free-size c =
    let f = c in
    let s = (goal.at.returns-then-free-size c).Start in
    let a = s.args in
    turn-short (rule s) _ (size s) a.free.now a.rules a.next (leb-false _ _ (sym f.is_full.ensures ∙ f.if-is_full.false)) c.if-free-size.true

pub returns : goal.returns
returns c =
    let w = c in
    let g = c in
    let f = c in
    let s = (goal.at.returns c).Start in
    let a = s.args in
    turn-adds (rule s) _ (size s) a.free.now a.rules a.next (leb-false _ _ (sym f.is_full.ensures ∙ f.if-is_full.false)) g.if-free-size.false _ _
    w.write_rule.ensures (c.max.ensures ∙ ap₂ (λ x y. max x y) (in-heads (goal.at.returns c).After-largest_variable-b) (in_body (goal.at.returns c).After-largest_variable-b))
