use mathlib.Core.Path.{◌≡◌, sym, ◌∙◌, subst}
use mathlib.Core.Bool.{Bool, true}
use mathlib.Core.List.{List}
use Prim.Native.Nat.{ℕ}
use native.Mathlib.Omega.{arith}
use lib.IntN.{ℤ}
use lib.ListN.{length}
use Rattle.weights.specs.Weights.{paired}
use Rattle.aspif.specs.Reading.{all_weights}
use Rattle.aspif.proofs.PairWords.{length-paired}
use Rattle.costs.specs.Costs.{good_costs}
use Rattle.cheapest.proofs.Answers.{no-costs, bad-costs, good-costs}
use Rattle.cheapest.proofs.judge_list.Goals as goal
use Rattle.cheapest.proofs.judge_list.Goals.{Else-not-all_weights}

module _ (c : Else-not-all_weights) where
  -- the second of each two words is a cost
  weighed : all_weights c.args.pairs.now ≡ true
  weighed = sym c.all_weights.ensures ∙ c.if-not-all_weights.false

-- goodness by the program's own atoms
of-atoms : {N M : ℕ} {b : Bool} (zs : List ℤ) → N ≡ M → good_costs N (paired zs) ≡ b → good_costs M (paired zs) ≡ b
of-atoms {b = b} zs e g = subst (λ (n : ℕ). good_costs n (paired zs) ≡ b) e g

pub returns-then-not-all_weights : goal.returns-then-not-all_weights
returns-then-not-all_weights c = λ ws p w.
    let a = c.args in
    c.refuse.ensures
    ∙ no-costs (length a.table.now) (length a.store.now) ws a.set.now a.pairs.now a.proof.now (sym c.all_weights.ensures ∙ c.if-not-all_weights.true)

pub is_good-requires : goal.is_good-requires
is_good-requires c =
    let d = (goal.at.is_good-requires c).Else-not-all_weights in
    let r = d.requires.row in
    (omega (arith, length-paired d.args.pairs.now (weighed d), r.0, r.1), r.2)

pub returns-then-not-is_good : goal.returns-then-not-is_good
returns-then-not-is_good c = λ ws p w.
    let d = (goal.at.returns-then-not-is_good c).Else-not-all_weights in
    let a = d.args in
    c.refuse-then-not-is_good.ensures
    ∙ bad-costs (length a.table.now) (length a.store.now) ws a.set.now a.pairs.now a.proof.now (weighed d)
    (of-atoms a.pairs.now p.top (sym c.is_good.ensures.good.0 ∙ c.if-not-is_good.true))

pub judge_set-requires : goal.judge_set-requires
judge_set-requires c = let d = (goal.at.judge_set-requires c).Else-not-all_weights in
    let p = d.requires in
    let g = c.is_good.ensures.good in record { program = p.program; short = p.short; pairs = (weighed d, sym g.0 ∙ c.if-not-is_good.false); sorted = g.1; set = p.set; empty = p.empty }

pub returns : goal.returns
returns c = λ ws p w.
    let d = (goal.at.returns c).Else-not-all_weights in
    let a = d.args in
    c.judge_set.ensures ws p w
    ∙ good-costs (length a.table.now) (length a.store.now) ws a.set.now a.pairs.now a.proof.now (weighed d)
    (of-atoms a.pairs.now p.top (sym c.is_good.ensures.good.0 ∙ c.if-not-is_good.false))
