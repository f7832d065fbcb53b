-- The loop: the literals before i are true, only literals of the list are, and the entries from the end on are free.
use mathlib.Core.Path.{◌≡◌, ◌∙◌}
use mathlib.Core.Logic.{inl, inr}
use mathlib.Core.List.{[]}
use Prim.Native.Nat.{ℕ, ◌<◌}
use native.Mathlib.Omega.{arith}
use borrow.Author.Count.{below_more}
use borrow.Author.Rules.{rules}
use lib.IntN.{ℤ, pos}
use lib.ListN.{length, get_or, set, length-set, length-replicate}
use Rattle.words.specs.Lists.{◌∈◌}
use Rattle.words.specs.Literals.{variable, complement}
use Rattle.words.proofs.Laws.{padded}
use Rattle.words.proofs.Words.{back}
use Rattle.words.proofs.Places.{in-at, place-of}
use Rattle.words.specs.Limits.{entries}
use Rattle.propagation.specs.Propagate.{entry, Assigns}
use Rattle.propagation.proofs.Assignments.{none_true, blank-set, alone, assigned, assigned→, assigned-kept}
use Rattle.propagation.proofs.assign.Goals as goal
use Rattle.propagation.proofs.assign.Goals.{In-loop-literal, After-make_true-v}

pub loop-literal-init : goal.loop-literal-init
loop-literal-init c =
    rw c.requires.free (
      length-replicate {A = ℕ} entries 0,
      λ j h. absurd (omega arith),
      λ z a. absurd (none_true entries z a),
      (omega arith, λ j h. padded {A = ℕ} 0 [] entries j),
    )

-- the literal at i
module _ (c : In-loop-literal) where
  abbrev word : ℤ
  word = get_or c.args.literals.now c.loop-literal.literal-index (pos 0)

  inside : word ∈ c.args.literals.now
  inside = in-at (pos 0) c.args.literals.now c.loop-literal.literal-index c.loop-literal-test.true

pub make_true-v-requires : goal.make_true-v-requires
make_true-v-requires c = let k = (goal.at.make_true-v-requires c).In-loop-literal in record { literal = rw (back (word k) (search rules)) (k.requires.literals.high (word k) (inside k)); size = k.loop-literal.invariant.0 }

-- its variable
made : (c : After-make_true-v) → c.make_true-v.result ≡ variable (word c.before.before.before)
made c = let k = c.before.before.before in rw (back (word k) (search rules)) at c.make_true-v.ensures.variable

pub past-end-requires : goal.past-end-requires
past-end-requires c =
    let k = (goal.at.past-end-requires c).In-loop-literal in
    (k.loop-literal.invariant.3.0, omega (arith, made c, k.requires.literals.high (word k) (inside k)))

pub loop-literal-preserved : goal.loop-literal-preserved
loop-literal-preserved c =
    let t = (goal.at.loop-literal-preserved c).After-make_true-v in
    let k = (goal.at.loop-literal-preserved c).In-loop-literal in
    let p = c.past-end.ensures in
    let s = c in
    let l = k.loop-literal in
    let v = l.invariant in
    let x = word k in
    let single : ¬ Assigns l.assignment (complement x) = λ a. alone s.args.literals.now s.requires.literals l.literal-index k.loop-literal-test.true (v.2 _ a) in
    let hx : variable x < length l.assignment = omega (arith, v.0, s.requires.literals.high x (inside k)) in
    let is : t.make_true-v.new.assignment ≡ set l.assignment (variable x) (entry x) =
    rw (back x (search rules)) at t.make_true-v.ensures.assigned in (
      rw is (length-set l.assignment (variable x) (entry x) ∙ v.0),
      rw is (below_more _ l.literal-index
          (λ j h. assigned-kept l.assignment x hx single (get_or s.args.literals.now j (pos 0)) (v.1 j h))
          (assigned l.assignment x hx)),
      λ z a. elim (assigned→ l.assignment x hx z (s.requires.literals.low x (inside k)) (rw is at a)) [ inl q ↦ rw q (inside k) | inr b ↦ v.2 z b ],
      (p.1.1, rw is (blank-set l.assignment (variable x) (entry x) l.end _ v.3.1 p.0 (omega (arith, made t, p.1.0)))),
    )

pub returns : goal.returns
returns c = let l = c.loop-literal in record { size = (l.invariant.0, l.invariant.3); literals = λ z. (l.invariant.2 z, λ u. let r = place-of (pos 0) u in rw r.2 at (l.invariant.1 r.0 (omega (arith, r.1)))) }
