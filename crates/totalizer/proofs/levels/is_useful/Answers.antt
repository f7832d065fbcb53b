use mathlib.Core.Path.{◌∙◌, ap}
use Prim.Native.Nat.{◌+◌, ◌-◌}
use native.Mathlib.Omega.{arith}
use lib.Dec.{ltb}
use lib.ListN.{get_or}
use Rattle.words.proofs.Places.{in-at}
use Rattle.totalizer.proofs.Below.{useful-zero, useful-none, useful-first, useful-after}
use Rattle.totalizer.proofs.levels.is_useful.Goals as goal

pub returns-then-u-eq0 : goal.returns-then-u-eq0
returns-then-u-eq0 c =
    let s = c in
    useful-zero s.requires.sums.0 s.requires.sums.1 s.args.i s.requires.there c.if-u-eq0.true

pub overflow_sub-bound : goal.overflow_sub-bound
overflow_sub-bound c =
    let s = c in
    s.requires.sums.0.low _ (in-at 0 s.args.inside.now s.args.i s.requires.there)

pub returns-then-outside-j : goal.returns-then-outside-j
returns-then-outside-j c =
    let s = c in
    useful-none s.requires.sums.0 s.requires.sums.1 s.args.i s.requires.there (omega (arith, c.if-outside-j.true, c.below_of-j.ensures))

pub returns-then-i-eq0 : goal.returns-then-i-eq0
returns-then-i-eq0 c =
    let s = c in
    let b = c in
    useful-first s.requires.sums.0 s.requires.sums.1 s.args.i s.requires.there b.if-u-eq0.false
    (omega (arith, c.if-outside-j.false, b.below_of-j.ensures)) c.if-i-eq0.true

pub overflow_add-result : goal.overflow_add-result
overflow_add-result c =
    let s = c in
    let b = c in
    let u = s.requires.sums.0.low _ (in-at 0 s.args.inside.now (s.args.i - 1) (omega (arith, s.requires.there))) in
    let o = s.requires.sums.1.low _ (in-at 0 s.args.outside.now b.below_of-j.result c.if-outside-j.false) in
    record { fits = omega (arith, u, o, s.requires.sums.2) }

pub returns : goal.returns
returns c =
    let s = c in
    let a = s.args in
    let b = c in
    ap (λ n. ltb (get_or a.inside.now (a.i - 1) 0 + get_or a.outside.now n 0) a.bound) b.below_of-j.ensures
    ∙ useful-after s.requires.sums.0 s.requires.sums.1 a.i s.requires.there b.if-u-eq0.false
    (omega (arith, c.if-outside-j.false, b.below_of-j.ensures)) c.if-i-eq0.false
