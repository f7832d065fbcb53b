use mathlib.Core.Path.{◌≡◌, refl, sym, ◌∙◌}
use native.Mathlib.Omega.{arith}
use lib.IntN.{pos}
use lib.ListN.{get_or, drop}
use Rattle.std.proofs.Common.{rules}
use Rattle.words.proofs.Words.{back}
use Rattle.weights.specs.Completing.{starts_with}
use Rattle.weights.proofs.Merging.{merge-start, merge-skip, merge-take, merge-end}
use Rattle.weights.proofs.is_body.Goals as goal
use Rattle.weights.proofs.is_body.Goals.{After-stands_at}

pub loop-pair-init : goal.loop-pair-init
loop-pair-init c =
    rw (c.into_iter-pair-iterator.ensures.into_iter_gives, c.chunks_exact-pair-items.ensures.rest, c.chunks_exact-pair-items.ensures.size) (refl, merge-start c.requires.1 c.requires.2)

-- what the call tells of the pair's literal
next : (c : After-stands_at) → starts_with (get_or c.in-Some.pair.now 0 (pos 0)) (drop c.loop-pair.j c.args.list.now) ≡ c.stands_at.result
next c = sym (rw (back (get_or c.in-Some.pair.now 0 (pos 0)) (search rules)) at c.stands_at.ensures)

pub loop-pair-preserved-then-stands_at : goal.loop-pair-preserved-then-stands_at
loop-pair-preserved-then-stands_at c =
    let s = c.in-Some.ensures.steps in
    let w = rw (back (get_or c.in-Some.pair.now 1 (pos 0)) (search rules)) at c.variable_of-w.ensures in
    (s.0 ∙ c.loop-pair.invariant.0, rw (c.min-least.ensures, w) (merge-take c.loop-pair.invariant.1 _ _ s.1.0 (s.1.1 ∙ c.loop-pair.invariant.0) (next (goal.at.loop-pair-preserved-then-stands_at c).After-stands_at ∙ c.if-stands_at.true)))

pub loop-pair-preserved : goal.loop-pair-preserved
loop-pair-preserved c =
    let s = c.in-Some.ensures.steps in
    (s.0 ∙ c.loop-pair.invariant.0, merge-skip c.loop-pair.invariant.1 _ _ s.1.0 (s.1.1 ∙ c.loop-pair.invariant.0) (next (goal.at.loop-pair-preserved c).After-stands_at ∙ c.if-stands_at.false))

pub returns : goal.returns
returns c =
    let i = c.loop-pair.invariant in
    sym (merge-end i.1 (omega (arith, c.in-None.ensures.steps.1.0, i.0)))
