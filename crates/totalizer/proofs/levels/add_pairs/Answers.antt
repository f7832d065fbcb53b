use mathlib.Core.Path.{◌≡◌, sym, subst}
use Prim.Native.Nat.{◌+◌, ◌*◌, ◌-◌, ◌≤◌}
use native.Mathlib.Omega.{arith}
use lib.IntN.{pos}
use lib.ListN.{get_or}
use Rattle.std.proofs.Common.{rules}
use Rattle.words.specs.Literals.{variable}
use Rattle.words.proofs.Words.{back}
use Rattle.weights.specs.Weights.{most_weight}
use Rattle.totalizer.specs.Lists.{SumsUpTo}
use Rattle.totalizer.proofs.Adding.{weight-at, over-up-to, adding-start, adding-on, adding-done}
use Rattle.totalizer.proofs.levels.add_pairs.Goals as goal
use Rattle.totalizer.proofs.levels.add_pairs.Goals.{After-variable_of-weight}

pub loop-left-init : goal.loop-left-init
loop-left-init c = adding-start _ _ c.args.n _ _ c.requires.sums.1

-- the weight of the pair
weight : (c : After-variable_of-weight)
    → c.variable_of-weight.result ≡ variable (get_or c.args.pairs.now (2 * (c.loop-left.left - 1) + 1) (pos 0))
weight c = rw (back (get_or c.args.pairs.now (2 * (c.loop-left.left - 1) + 1) (pos 0)) (search rules)) at c.variable_of-weight.ensures

pub add_literal-count-requires-clause-sums : goal.add_literal-count-requires-clause-sums
add_literal-count-requires-clause-sums c =
    let p = c.requires in
    let low : c.variable_of-weight.result ≤ most_weight = rw (weight (goal.at.add_literal-count-requires-clause-sums c).After-variable_of-weight) (weight-at c.args.pairs.now p.pairs.0 (c.loop-left.left - 1) (omega arith)) in
    (subst (SumsUpTo c.args.bound) (sym c.loop-left.invariant.is) (over-up-to p.sums.0 _), p.pairs.1, low)

pub loop-left-preserved : goal.loop-left-preserved
loop-left-preserved c =
    let a = c.add_literal-count in
    let l = c.loop-left in
    adding-on l.invariant c.loop-left-test.true (omega arith) (weight (goal.at.loop-left-preserved c).After-variable_of-weight) a.ensures.within a.ensures.sums a.auto.sums a.auto.spare

pub returns-clause-sums : goal.returns-clause-sums
returns-clause-sums c = adding-done c.loop-left.invariant c.loop-left-test.false
