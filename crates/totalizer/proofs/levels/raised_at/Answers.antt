use mathlib.Core.Path.{sym, ap, ◌∙◌}
use Prim.Native.Nat.{suc}
use native.Mathlib.Omega.{arith}
use Rattle.words.proofs.Places.{in-at}
use Rattle.totalizer.specs.Lists.{head_or}
use Rattle.totalizer.proofs.Merging.{raised-first, raised-none}
use Rattle.totalizer.proofs.levels.raised_at.Goals as goal

pub overflow_add-sums : goal.overflow_add-sums
overflow_add-sums c =
    let s = c in
    let p = s.requires in
    let l = p.0.low _ (in-at 0 s.args.sums.now s.args.j c.if-j-sums.true) in
    record { fits = omega (arith, l, p.1, p.2) }

pub returns-then-j-sums : goal.returns-then-j-sums
returns-then-j-sums c =
    let s = c in
    let a = s.args in
    c.smaller.ensures ∙ sym (raised-first a.bound a.weight a.sums.now a.j c.if-j-sums.true)

pub returns-else-j-sums : goal.returns-else-j-sums
returns-else-j-sums c =
    let a = c.args in
    sym (ap (head_or (suc a.bound)) (raised-none a.bound a.weight a.sums.now a.j c.if-j-sums.false) ∙ omega arith)
