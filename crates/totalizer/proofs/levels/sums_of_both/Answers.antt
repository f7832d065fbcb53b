use mathlib.Core.Path.{sym, subst, ap, ◌∙◌}
use native.Mathlib.Omega.{arith}
use Rattle.weights.specs.Weights.{paired}
use Rattle.totalizer.specs.Lists.{SumsUpTo, sums_over}
use Rattle.totalizer.proofs.Adding.{sums-up-to, over-sums}
use Rattle.totalizer.proofs.levels.sums_of_both.Goals as goal

pub add_pairs-requires : goal.add_pairs-requires
add_pairs-requires c = let s = c in
    let p = s.requires in
    let f = c.sums_of-n in
    let g = subst (SumsUpTo s.args.bound) (sym f.ensures.sums) (sums-up-to s.args.bound _) in record { pairs = (p.pairs.0, p.pairs.2); sums = (g, f.ensures.within); room = (omega (arith, f.auto.sums, p.room.0), omega (arith, f.auto.spare, p.room.1)) }

pub returns : goal.returns
returns c = let s = c in
    let a = s.args in
    let f = c.sums_of-n in
    let r = c.add_pairs.ensures in record { within = r.within; sums = r.sums ∙ ap (λ us. sums_over a.bound us (paired a.first.now)) f.ensures.sums ∙ over-sums a.bound (paired a.second.now) (paired a.first.now) }
