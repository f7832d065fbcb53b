use native.Mathlib.Omega.{arith}
use lib.IntN.{pos}
use lib.ListN.{drop, get_or}
use Rattle.words.proofs.Parts.{tail_of}
use Rattle.nogoods.proofs.Literals.{literals-tail}
use Rattle.nogoods.proofs.Defined.{name-and-literals}
use Rattle.steps.proofs.Kept.{kept-one, Joined, joined}
use Rattle.steps.proofs.supports.join.Goals as goal
use Rattle.steps.proofs.supports.join.Goals.{After-sort}

pub complement_all-requires : goal.complement_all-requires
complement_all-requires c =
    let s = c in
    let l = s.args.numbers.now in
    rw (tail_of 1 l) (literals-tail (get_or l 0 (pos 0)) (drop 1 l) (name-and-literals l s.requires.line.1 s.requires.line.0)).high

-- the numbers as they are added
module _ (c : After-sort) where
  added : Joined c.args.numbers.now c.sort.new.words
  added =
      let k = c.complement_all in
      let p = c.requires.line in
      joined c.args.numbers.now k.new.words c.sort.new.words p.0 p.1 k.ensures c.sort.ensures

pub append-requires : goal.append-requires
append-requires c = let o = (goal.at.append-requires c).After-sort in record { held = o.requires.store.0; origin = o.requires.store.1; literals = ((added o).literals, omega (arith, (added o).size, o.requires.line.2)) }

pub returns : goal.returns
returns c =
    let a = c in
    let o = (goal.at.returns c).After-sort in
    λ b H. kept-one b o.args.origin _ _ _ a.append.result c.fitted.ensures (added o).is (a.append.ensures b H)
