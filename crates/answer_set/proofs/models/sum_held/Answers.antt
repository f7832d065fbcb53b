use mathlib.Core.Path.{◌≡◌, ◌∙◌, ap}
use mathlib.Core.List.{List}
use Prim.Native.Nat.{◌+◌}
use native.Mathlib.Omega.{arith}
use lib.IntN.{ℤ, pos}
use lib.ListN.{get_or}
use Rattle.std.proofs.Common.{rules}
use Rattle.std.specs.Slice.Iter.{chunks_exact_rest}
use Rattle.words.proofs.Words.{back}
use Rattle.weights.specs.Weights.{paired}
use Rattle.marks.specs.Marks.{marked}
use Rattle.answer_set.specs.SetTest.{held_sum}
use Rattle.answer_set.proofs.Marking.{held_on, held_small}
use Rattle.answer_set.proofs.models.sum_held.Goals as goal
use Rattle.answer_set.proofs.models.sum_held.Goals.{After-weight_held-total}

more : (c : After-weight_held-total)
    → (let a = c.args in
    held_sum (marked a.inside.now) (marked a.marks.now) (paired a.pairs.now)
    ≡ c.loop-pair.total + c.weight_held-total.result + held_sum (marked a.inside.now) (marked a.marks.now) (paired (chunks_exact_rest c.next.new.self)))
more c =
    let a = c.args in
    let l = c.loop-pair in
    let s = c.in-Some.ensures.steps in
    let p = c.in-Some.pair.now in
    let f = rw (back (get_or p 0 (pos 0)) (search rules), back (get_or p 1 (pos 0)) (search rules)) at c.weight_held-total.ensures in
    let e = ap (λ (k : List ℤ). held_sum (marked a.inside.now) (marked a.marks.now) (paired k)) s.1.0 ∙ held_on (marked a.inside.now) (marked a.marks.now) p _ (s.1.1 ∙ l.invariant.0) in
    omega (arith, l.invariant.1, e, f)

pub overflow_add-total : goal.overflow_add-total
overflow_add-total c =
    let a = c.args in
    record { fits = omega (arith, more c, held_small (marked a.inside.now) (marked a.marks.now) (paired a.pairs.now), c.requires) }

pub loop-pair-preserved : goal.loop-pair-preserved
loop-pair-preserved c = (c.in-Some.ensures.steps.0 ∙ c.loop-pair.invariant.0, more c)
