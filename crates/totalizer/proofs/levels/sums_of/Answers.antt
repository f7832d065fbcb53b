use mathlib.Core.Path.{sym, subst, ◌∙◌}
use native.Mathlib.Omega.{arith}
use lib.ListN.{length-set}
use Rattle.totalizer.specs.Lists.{SumsUpTo}
use Rattle.totalizer.proofs.Adding.{sums-up-to, first-sum, over_first}
use Rattle.totalizer.proofs.levels.sums_of.Goals as goal

pub add_pairs-requires : goal.add_pairs-requires
add_pairs-requires c = let s = c in
    let a = s.args in
    let p = s.requires in
    let n = length-set a.sums.now 0 0 in
    let g = subst (SumsUpTo a.bound) (sym (first-sum a.bound a.sums.now (omega (arith, p.room.0)))) (sums-up-to a.bound _) in record { pairs = p.pairs; sums = (g, omega (arith, n, p.room.0)); room = (omega (arith, n, p.room.0), p.room.1) }

pub returns : goal.returns
returns c = let s = c in
    let r = c.add_pairs.ensures in record { within = r.within; sums = r.sums ∙ over_first s.args.bound s.args.sums.now _ (omega (arith, s.requires.room.0)) }
