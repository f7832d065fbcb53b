-- `relevance::is_relevant` meets its contract, by `RelevantBySums`.
-- Assumes nothing.
use mathlib.Core.Path.{◌≡◌, sym, ap, ◌∙◌}
use mathlib.Core.List.{List}
use Prim.Native.Nat.{ℕ, ◌+◌, ◌-◌}
use native.Mathlib.Omega.{arith}
use mir.Syntax.{w32}
use mir.Val.{to_z, of_z}
use mir.Facts.{to_z-of_z}
use Rattle.words.specs.Literals.{variable}
use Rattle.weights.specs.Weights.{Weighted, sum, paired}
use Rattle.loops.specs.Relevance.{has_sum, others}
use Rattle.loops.proofs.Sums.{others-sum, relevant-by-sums}
use Rattle.loops.proofs.relevance.is_relevant.Goals as goal
use Rattle.loops.proofs.relevance.is_relevant.Goals.{After-sum_of}

-- the weight, and what the others add up to
module _ (c : After-sum_of) where
  abbrev all : List Weighted
  all = paired c.args.pairs.now

  own : to_z w32 (of_z w32 c.args.literal) ≡ c.args.literal
  own = to_z-of_z c.ranges.literal

  weight : c.variable_of-w.result ≡ variable c.args.weight
  weight = rw (to_z-of_z c.ranges.weight) at c.variable_of-w.ensures

  sums : c.sum_of.result ≡ c.variable_of-w.result + sum (others c.args.literal all)
  sums = omega (arith, c.sum_of.ensures, weight, others-sum c.requires.0 c.requires.2)

pub overflow_sub-left : goal.overflow_sub-left
overflow_sub-left c = omega (arith, sums (goal.at.overflow_sub-left c).After-sum_of)

pub has_sum-requires : goal.has_sum-requires
has_sum-requires c = let d = (goal.at.has_sum-requires c).After-sum_of in rw (own d) (omega (arith, sums d))

pub returns : goal.returns
returns c =
    let d = (goal.at.returns c).After-sum_of in
    let b = d.args.bound in
    let low = c.saturating_sub.ensures ∙ ap (λ (w : ℕ). b - w) (weight d) in
    rw (own d) at c.has_sum.ensures
    ∙ ap (λ (n : ℕ). has_sum n b (others d.args.literal (all d))) low
    ∙ sym (relevant-by-sums b (all d) _ d.requires.0 d.requires.2)
