use mathlib.Core.Path.{◌∙◌, ap}
use native.Mathlib.Omega.{arith}
use lib.ListN.{length, length-map}
use Rattle.words.specs.Literals.{ascending}
use Prim.Native.Nat.{◌≤◌}
use Rattle.weights.specs.Weights.{paired, most_weighted}
use Rattle.aspif.proofs.Pairs.{literals-many}
use Rattle.cheapest.proofs.Words.{good-told}
use Rattle.cheapest.proofs.lists.is_good.Goals as goal

pub returns : goal.returns
returns c = let s = c in
    let ps = s.args.pairs.now in
    let e = c.copy_literals.ensures in
    let few : length (paired ps) ≤ most_weighted = omega (arith, literals-many ps (length s.args.row.now) s.requires.0, length-map (paired ps) (λ k. k.literal), s.requires.1) in
    let d = c.sort_distinct-distinct.ensures.sorted in record { good = (good-told s.args.atoms (paired ps) few (rw e at c.all_atoms-inside.ensures) (rw e at d.0), d.1 ∙ ap ascending e) }
