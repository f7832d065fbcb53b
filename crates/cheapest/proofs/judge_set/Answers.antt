use mathlib.Core.Path.{◌≡◌, sym, ◌∙◌, ap, subst}
use mathlib.Core.Bool.{true}
use mathlib.Core.List.{List}
use Prim.Native.Nat.{ℕ}
use native.Mathlib.Omega.{arith}
use lib.ListN.{length}
use Rattle.words.specs.Lists.{ascends}
use Rattle.weights.specs.Weights.{paired}
use Rattle.aspif.specs.Rules.{InputRule}
use Rattle.aspif.proofs.PairWords.{length-paired}
use Rattle.marks.specs.Marks.{listed}
use Rattle.answer_set.specs.SetTest.{verdict_of}
use Rattle.steps.specs.Held.{Program}
use Rattle.costs.specs.Costs.{total}
use Rattle.cheapest.specs.Service.{CheapestLeft, is_yes, with_cost}
use Rattle.cheapest.proofs.Answers.{rules-found, too-dear, no-answer-set, costs-nothing, with-proof}
use Rattle.cheapest.proofs.Words.{good-few}
use Rattle.cheapest.proofs.judge_set.Goals as goal
use Rattle.cheapest.proofs.judge_set.Goals.{After-cost_of-cost, After-is_answer_set, Start}

module _ (c : After-cost_of-cost) where
  abbrev T : ℕ
  T = length c.args.table.now

  abbrev S : ℕ
  S = length c.args.store.now

  -- the cost is the set's
  cost-is : c.cost_of-cost.result ≡ total (listed c.args.set.now) (paired c.args.pairs.now)
  cost-is = c.cost_of-cost.ensures c.args.atoms c.requires.program.0.1.high c.requires.set

  with-total : {x : CheapestLeft} (ws : List InputRule) → x ≡ with_cost T S ws c.args.set.now (paired c.args.pairs.now) c.cost_of-cost.result c.args.proof.now
      → x ≡ with_cost T S ws c.args.set.now (paired c.args.pairs.now) (total (listed c.args.set.now) (paired c.args.pairs.now)) c.args.proof.now
  with-total ws e = e ∙ ap (λ (C : ℕ). with_cost T S ws c.args.set.now (paired c.args.pairs.now) C c.args.proof.now) cost-is

module _ (c : After-is_answer_set) where
  -- what is told of the set
  told : (ws : List InputRule) → Program c.args.table.now c.args.rules c.args.atoms ws
      → c.is_answer_set.result ≡ is_yes (verdict_of (listed c.args.set.now) ws)
  told ws p =
      c.is_answer_set.ensures ws (rules-found c.requires.program.1 p.holds)
      (subst (λ (n : ℕ). ascends 0 n c.args.set.now ≡ true) p.top c.requires.set)

pub cost_of-cost-requires : goal.cost_of-cost-requires
cost_of-cost-requires c =
    let p = c.requires.pairs in
    let ps = c.args.pairs.now in
    (p.0, omega (arith, length-paired ps p.0, good-few c.args.atoms (paired ps) p.1))

pub returns-then-cost-gt-MOST_WEIGHT : goal.returns-then-cost-gt-MOST_WEIGHT
returns-then-cost-gt-MOST_WEIGHT c = λ ws p w.
    let d = (goal.at.returns-then-cost-gt-MOST_WEIGHT c).After-cost_of-cost in
    let a = d.args in
    with-total d ws (c.refuse.ensures ∙ too-dear (T d) (S d) ws a.set.now (paired a.pairs.now) d.cost_of-cost.result a.proof.now c.if-cost-gt-MOST_WEIGHT.true)

pub returns-then-not-is_answer_set : goal.returns-then-not-is_answer_set
returns-then-not-is_answer_set c = λ ws p w.
    let i = (goal.at.returns-then-not-is_answer_set c).After-is_answer_set in
    let d = (goal.at.returns-then-not-is_answer_set c).After-cost_of-cost in
    let a = d.args in
    with-total d ws (c.refuse-then-not-is_answer_set.ensures
    ∙ no-answer-set (T d) (S d) ws a.set.now (paired a.pairs.now) d.cost_of-cost.result a.proof.now i.if-cost-gt-MOST_WEIGHT.false (sym (told i ws p) ∙ c.if-not-is_answer_set.true))

pub returns-then-cost-eq0 : goal.returns-then-cost-eq0
returns-then-cost-eq0 c = λ ws p w.
    let i = (goal.at.returns-then-cost-eq0 c).After-is_answer_set in
    let d = (goal.at.returns-then-cost-eq0 c).After-cost_of-cost in
    let a = d.args in
    with-total d ws (costs-nothing (T d) (S d) ws a.set.now (paired a.pairs.now) d.cost_of-cost.result a.proof.now i.if-cost-gt-MOST_WEIGHT.false (sym (told i ws p) ∙ c.if-not-is_answer_set.false) c.if-cost-eq0.true w d.requires.empty)

pub judge_proof-requires : goal.judge_proof-requires
judge_proof-requires c = let i = (goal.at.judge_proof-requires c).After-is_answer_set in
    let p = c.requires in record { program = p.program; short = p.short; pairs = p.pairs; sorted = p.sorted; cost = i.if-cost-gt-MOST_WEIGHT.false; empty = p.empty }

pub returns : goal.returns
returns c = λ ws p w.
    let i = (goal.at.returns c).After-is_answer_set in
    let d = (goal.at.returns c).After-cost_of-cost in
    let a = d.args in
    with-total d ws (c.judge_proof.ensures ws p w
    ∙ with-proof (T d) (S d) ws a.set.now (paired a.pairs.now) d.cost_of-cost.result a.proof.now i.if-cost-gt-MOST_WEIGHT.false (sym (told i ws p) ∙ c.if-not-is_answer_set.false) c.if-cost-eq0.false)
