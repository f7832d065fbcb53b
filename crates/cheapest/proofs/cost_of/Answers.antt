use mathlib.Core.Path.{◌∙◌, ap}
use mathlib.Core.Bool.{Bool}
use Prim.Native.Nat.{ℕ}
use native.Mathlib.Omega.{arith}
use Rattle.words.specs.Limits.{entries}
use Rattle.weights.specs.Weights.{paired}
use Rattle.marks.specs.Marks.{marked}
use Rattle.marks.proofs.Sets.{marks-listed}
use Rattle.answer_set.specs.SetTest.{held_sum}
use Rattle.cheapest.proofs.Words.{costs-small}
use Rattle.cheapest.proofs.cost_of.Goals as goal

pub sum_held-requires : goal.sum_held-requires
sum_held-requires c =
    let s = c in
    costs-small s.args.pairs.now s.requires.0 s.requires.1

pub returns : goal.returns
returns c = λ N h u.
    let a = c.args in
    c.sum_held.ensures
    ∙ ap (λ (M : ℕ → Bool). held_sum M M (paired a.pairs.now)) (ap marked c.mark_all.ensures ∙ marks-listed N entries a.set.now u (omega (arith, h)))
