use mathlib.Core.Path.{◌≡◌, refl, sym, ◌∙◌, ap, subst}
use mathlib.Core.Bool.{Bool, true}
use mathlib.Core.List.{List, ◌++◌}
use Prim.Native.Nat.{ℕ, ◌/◌, ◌≤◌}
use native.Mathlib.Omega.{arith}
use lib.IntN.{ℤ, pos}
use lib.ListN.{length, take, drop, replicate, length-append, length-replicate}
use lib.Seq.{take_at, length-take-le}
use Rattle.words.specs.Lists.{ascends}
use Rattle.cheapest.proofs.Answers.{too_many, no-set, with-set}
use Rattle.cheapest.proofs.cheapest_read.Goals as goal
use Rattle.cheapest.proofs.cheapest_read.Goals.{Else-not-ascends_within, After-widen}

-- question 42 by the program's own atoms
of-atoms : {N M : ℕ} {b : Bool} (l : List ℕ) → N ≡ M → ascends 0 N l ≡ b → ascends 0 M l ≡ b
of-atoms {b = b} l e g = subst (λ (n : ℕ). ascends 0 n l ≡ b) e g

module _ (c : Else-not-ascends_within) where
  passed : ascends 0 c.args.atoms c.args.set.now ≡ true
  passed = sym c.ascends_within.ensures ∙ c.if-not-ascends_within.false

-- the costs as words, at the front of the row
module _ (c : After-widen) where
  abbrev costs : List ℤ
  costs = c.args.costs.now

  abbrev row : List ℤ
  row = c.widen.new.row

  are : row ≡ costs ++ drop (length costs) (replicate 24 (pos 0))
  are = c.widen.ensures

  front : take (length costs) row ≡ costs
  front = ap (take (length costs)) are ∙ take_at costs (drop (length costs) (replicate 24 (pos 0))) (length costs) refl

  fits : length (take (length costs) row) ≡ length costs
  fits = ap length front

  room : length costs ≤ length row
  room = omega (arith, ap length are, length-append costs (drop (length costs) (replicate 24 (pos 0))))

pub returns-then-not-ascends_within : goal.returns-then-not-ascends_within
returns-then-not-ascends_within c = λ ws p w.
    let a = c.args in
    c.refuse.ensures
    ∙ no-set (length a.table.now) (length a.store.now) ws a.set.now a.costs.now a.proof.now
    (of-atoms a.set.now p.top (sym c.ascends_within.ensures ∙ c.if-not-ascends_within.true))

pub returns-then-n-gt-COST_WORDS : goal.returns-then-n-gt-COST_WORDS
returns-then-n-gt-COST_WORDS c = λ ws p w.
    let a = c.args in
    c.refuse-then-n-gt-COST_WORDS.ensures
    ∙ too_many (length a.table.now) (length a.store.now) ws a.set.now a.costs.now a.proof.now (omega (arith, c.if-n-gt-COST_WORDS.true))
    ∙ with-set (length a.table.now) (length a.store.now) ws a.set.now a.costs.now a.proof.now (of-atoms a.set.now p.top (passed (goal.at.returns-then-n-gt-COST_WORDS c).Else-not-ascends_within))

pub widen-requires : goal.widen-requires
widen-requires c = omega (arith, c.if-n-gt-COST_WORDS.false, length-replicate 24 (pos 0))

pub slice_bounds-pairs-end : goal.slice_bounds-pairs-end
slice_bounds-pairs-end c = room (goal.at.slice_bounds-pairs-end c).After-widen

pub slice_bounds-judge_list-end : goal.slice_bounds-judge_list-end
slice_bounds-judge_list-end c = sym (fits (goal.at.slice_bounds-judge_list-end c).After-widen)

pub slice_bounds-judge_list-end-2 : goal.slice_bounds-judge_list-end-2
slice_bounds-judge_list-end-2 c = sym (length-take-le _ _ (omega (arith, c.if-n-gt-COST_WORDS.false, length-replicate 12 (pos 0))))

pub judge_list-requires : goal.judge_list-requires
judge_list-requires c = let e = c.if-n-gt-COST_WORDS.false in
    let d = (goal.at.judge_list-requires c).Else-not-ascends_within in
    let p = d.requires in
    let n = (goal.at.judge_list-requires c).After-widen in
    let half = length d.args.costs.now / 2 in
    let h : length (take half (replicate 12 (pos 0))) ≡ half = length-take-le half (replicate 12 (pos 0)) (omega (arith, e, length-replicate 12 (pos 0))) in record { program = p.program; short = p.short; row = (omega (arith, fits n, h), omega (arith, fits n, h), omega (arith, e, h)); set = passed d; empty = p.empty }

pub returns : goal.returns
returns c = λ ws p w.
    let a = c.args in
    (rw (front (goal.at.returns c).After-widen) at (c.judge_list.ensures ws p w))
    ∙ with-set (length a.table.now) (length a.store.now) ws a.set.now a.costs.now a.proof.now (of-atoms a.set.now p.top (passed (goal.at.returns c).Else-not-ascends_within))
