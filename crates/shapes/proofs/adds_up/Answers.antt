use mathlib.Core.Path.{◌≡◌, sym}
use native.Mathlib.Omega.{arith}
use borrow.Author.Tests.{ne_eqb}
use Rattle.shapes.specs.Tree.{sum}
use Rattle.shapes.proofs.Steps.{sum-on, sum-none, same-eqb}
use Rattle.shapes.proofs.adds_up.Goals as goal

pub returns-then-left-length : goal.returns-then-left-length
returns-then-left-length c =
    let l = c.loop-length in
    let a = c.args in
    sym (ne_eqb (sum a.lengths.now) a.size (λ (q : sum a.lengths.now ≡ a.size). omega (arith, q, l.invariant, sum-on a.lengths.now l.length-index c.loop-length-test.true, c.if-left-length.true)))

pub loop-length-preserved : goal.loop-length-preserved
loop-length-preserved c =
    let l = c.loop-length in
    omega (arith, l.invariant, sum-on c.args.lengths.now l.length-index c.loop-length-test.true, c.if-left-length.false)

pub returns : goal.returns
returns c =
    let l = c.loop-length in
    let a = c.args in
    let z = sum-none a.lengths.now c.loop-length-test.false in
    same-eqb l.left 0 (sum a.lengths.now) a.size (λ (q : l.left ≡ 0). omega (arith, q, l.invariant, z))
    (λ (q : sum a.lengths.now ≡ a.size). omega (arith, q, l.invariant, z))
