use mathlib.Core.Path.{◌≡◌, refl, sym, ◌∙◌}
use Prim.Native.Nat.{◌+◌, ◌*◌, ◌≤◌}
use native.Mathlib.Omega.{arith}
use lib.IntN.{pos}
use lib.ListN.{length, take, length-replicate}
use lib.Seq.{length-take-le}
use Rattle.weights.specs.Weights.{paired, most_weighted}
use Rattle.cheapest.specs.Private.{Restricts}
use Rattle.cheapest.specs.declared.CheapestFault.TheVariants.{NotCertified}
use Rattle.cheapest.proofs.Answers.{same-nothing, proof-accepted, proof-refused}
use Rattle.cheapest.proofs.Words.{sorted-few, restricts-row}
use borrow.Author.Rules.{rules}
use Rattle.cheapest.proofs.judge_proof.Goals as goal
use Rattle.cheapest.proofs.judge_proof.Goals.{Start, After-write_restriction}

module _ (s : Start) where
  few : length s.args.sorted.now ≤ most_weighted
  few = sorted-few s.args.atoms (paired s.args.pairs.now) s.requires.pairs.1 s.requires.sorted

module _ (c : After-write_restriction) where
  long : length c.write_restriction.new.row ≡ 5 + 2 * most_weighted
  long = search rules

  words : Restricts c.args.atoms (paired c.args.pairs.now) c.args.cost
      (take (5 + 2 * length c.args.sorted.now) c.write_restriction.new.row)
  words =
      let p = c.requires in
      restricts-row c.args.atoms c.args.pairs.now c.args.sorted.now p.pairs.0 p.pairs.1 p.sorted c.args.cost p.cost _ _
      c.write_restriction.ensures

pub write_restriction-requires : goal.write_restriction-requires
write_restriction-requires c = let s = (goal.at.write_restriction-requires c).Start in
    let p = s.requires in record { pairs = (p.pairs.0, p.cost); sorted = (p.sorted, few s); row = omega (arith, few s, length-replicate (5 + 2 * most_weighted) (pos 0)) }

pub slice_bounds-row-end : goal.slice_bounds-row-end
slice_bounds-row-end c = omega (arith, few (goal.at.slice_bounds-row-end c).Start)

pub slice_bounds-accepts-end : goal.slice_bounds-accepts-end
slice_bounds-accepts-end c = sym (length-take-le _ _ (omega (arith, few (goal.at.slice_bounds-accepts-end c).Start, long (goal.at.slice_bounds-accepts-end c).After-write_restriction)))

pub accepts-requires : goal.accepts-requires
accepts-requires c = let d = (goal.at.accepts-requires c).After-write_restriction in
    let p = d.requires in record { program = p.program; short = p.short; rule = (paired d.args.pairs.now, d.args.cost, words d); empty = p.empty }

pub returns-then-accepts : goal.returns-then-accepts
returns-then-accepts c = λ ws p w.
    let d = (goal.at.returns-then-accepts c).After-write_restriction in
    let a = d.args in
    proof-accepted (length a.table.now) (length a.store.now) ws (paired a.pairs.now) a.cost a.proof.now
    (c.accepts.ensures ws p (paired a.pairs.now) a.cost (words d)) c.if-accepts.true w

pub returns : goal.returns
returns c = λ ws p w.
    let d = (goal.at.returns c).After-write_restriction in
    let a = d.args in
    let s : length c.accepts.new.store ≡ length a.store.now = search rules in
    c.refuse.ensures ∙ same-nothing NotCertified (refl {a = length a.table.now}) s
    ∙ proof-refused (length a.table.now) (length a.store.now) ws (paired a.pairs.now) a.cost a.proof.now
    (c.accepts.ensures ws p (paired a.pairs.now) a.cost (words d)) c.if-accepts.false
