-- `relevance::fill` meets its contract: one pass over the rules, twelve entries to each.
-- Assumes nothing.
use mathlib.Core.Path.{◌≡◌, refl, ap, ◌∙◌}
use Prim.Native.Nat.{◌+◌, ◌-◌, ◌≤◌}
use native.Mathlib.Omega.{arith}
use lib.ListN.{length, drop, length-drop}
use Rattle.words.proofs.Parts.{tail_of}
use Rattle.loops.proofs.Filling.{entering-none, entering-all, entering-more, fits, after-length}
use borrow.Author.Rules.{rules}
use Rattle.loops.proofs.relevance.fill.Goals as goal
use Rattle.loops.proofs.relevance.fill.Goals.{In-Some}

pub loop-rule-init : goal.loop-rule-init
loop-rule-init c =
    rw (c.into_iter-rule-iterator.ensures.into_iter_gives, c.rules_in-rule-items.ensures.start.0, c.rules_in-rule-items.ensures.start.1)
    (entering-none c.requires.1, refl)

-- there is room for the entries of the rule at hand
room : (c : In-Some) → c.loop-rule.at + 12 ≤ length c.loop-rule.relevant
room c = fits c.loop-rule.invariant.0 c.in-Some.ensures.steps

pub slice_bounds-fill_rule-count : goal.slice_bounds-fill_rule-count
slice_bounds-fill_rule-count c = omega (arith, room (goal.at.slice_bounds-fill_rule-count c).In-Some)

pub fill_rule-requires : goal.fill_rule-requires
fill_rule-requires c =
    let l = c.loop-rule in
    let twelve : 12 ≤ length (drop l.at l.relevant) = omega (arith, room (goal.at.fill_rule-requires c).In-Some, length-drop l.at l.relevant) in
    rw (tail_of l.at l.relevant) twelve

pub overflow_add-at : goal.overflow_add-at
overflow_add-at c = let h = room (goal.at.overflow_add-at c).In-Some in search rules

pub loop-rule-preserved : goal.loop-rule-preserved
loop-rule-preserved c =
    let l = c.loop-rule in
    let f = c.fill_rule in
    let e = c.in-Some.ensures.steps in
    let n : length f.new.entries ≡ length l.relevant - l.at =
    f.auto.entries ∙ ap length (tail_of l.at l.relevant) ∙ length-drop l.at l.relevant in (
      entering-more l.invariant.0 e c.in-Some.rule.sound f.new.entries n f.ensures,
      after-length l.invariant.0 e f.new.entries n ∙ l.invariant.1,
    )

pub returns : goal.returns
returns c = entering-all c.loop-rule.invariant.0 c.in-None.ensures.steps.0
