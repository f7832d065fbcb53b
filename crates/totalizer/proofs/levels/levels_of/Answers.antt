use mathlib.Core.Path.{sym, subst, ap₂, ◌∙◌}
use native.Mathlib.Omega.{arith}
use lib.Seq.{length-take-le}
use Rattle.sums.specs.Levels.{useful, levels_for}
use Rattle.totalizer.specs.Lists.{SumsUpTo}
use Rattle.totalizer.proofs.Merging.{few-sums}
use Rattle.totalizer.proofs.Adding.{sums-up-to}
use Rattle.totalizer.proofs.levels.levels_of.Goals as goal

pub sums_of_both-m-requires : goal.sums_of_both-m-requires
sums_of_both-m-requires c = let s = c in
    let p = s.requires in
    let f = c.sums_of-n in record { pairs = (p.pairs.0, p.pairs.2, p.pairs.3); room = (p.room.1, omega (arith, f.auto.spare, p.room.2)) }

pub slice_bounds-useful_levels-end-2 : goal.slice_bounds-useful_levels-end-2
slice_bounds-useful_levels-end-2 c = sym (length-take-le _ _ c.sums_of-n.ensures.within)

pub slice_bounds-useful_levels-end-4 : goal.slice_bounds-useful_levels-end-4
slice_bounds-useful_levels-end-4 c = sym (length-take-le _ _ c.sums_of_both-m.ensures.within)

pub useful_levels-requires : goal.useful_levels-requires
useful_levels-requires c = let s = c in
    let b = s.args.bound in
    let p = s.requires in
    let f = c.sums_of-n in
    let g = c.sums_of_both-m in
    let n = subst (SumsUpTo b) (sym f.ensures.sums) (sums-up-to b _) in record { sums = (n, subst (SumsUpTo b) (sym g.ensures.sums) (sums-up-to b _), p.pairs.3); room = omega (arith, few-sums n, p.room.3) }

pub returns : goal.returns
unfolding levels_for
returns c = let s = c in
    let r = c.useful_levels.ensures in
    let f = c.sums_of-n in
    let g = c.sums_of_both-m in record { within = r.within; levels = r.levels ∙ ap₂ (λ others us. useful s.args.bound others us) g.ensures.sums f.ensures.sums }
