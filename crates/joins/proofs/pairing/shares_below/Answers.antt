use native.Mathlib.Omega.{arith}
use borrow.Author.Tests.{lt-ltb, le-ltb}
use Rattle.totalizer.specs.Lists.{below}
use Rattle.totalizer.proofs.Below.{below-within}
use Rattle.joins.proofs.pairing.shares_below.Goals as goal

pub returns-then-need-eq0 : goal.returns-then-need-eq0
unfolding below
returns-then-need-eq0 c = let s = c in rw (le-ltb 0 s.args.need (omega (arith, c.if-need-eq0.true)))

pub overflow_add-result : goal.overflow_add-result
overflow_add-result c =
    let s = c in
    record { fits = omega (arith, c.below_of.ensures, below-within s.args.need s.args.ts.now, s.well_formed.0) }

pub returns : goal.returns
unfolding below
returns c =
    let s = c in
    rw (lt-ltb 0 s.args.need (omega (arith, c.if-need-eq0.false))) (omega (arith, c.below_of.ensures))
