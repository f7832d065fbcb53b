use mathlib.Core.Path.{◌≡◌, sym, subst}
use mathlib.Core.Bool.{true}
use native.Mathlib.Omega.{arith}
use lib.IntN.{pos}
use lib.ListN.{length, take, replicate}
use lib.Seq.{length-take-le}
use Rattle.words.specs.Limits.{most_literals}
use Rattle.aspif.specs.Reading.{ranged, rule_of, room}
use Rattle.aspif.specs.Turns.{TurnTaken}
use Rattle.aspif.specs.declared.rules.Shape.TheVariants.{Weighed}
use Rattle.aspif.proofs.rules.take_weighed.Goals as goal
use Rattle.aspif.proofs.rules.take_weighed.Goals.{Start}
use Rattle.std.specs.Prelude.{Ok}

-- the row lent for the literals has as many places
many : (c : Start) → length (take c.args.body (replicate most_literals (pos 0))) ≡ c.args.body
many c = length-take-le c.args.body (replicate most_literals (pos 0)) c.requires.sizes.1

pub slice_bounds-take_pairs-end : goal.slice_bounds-take_pairs-end
slice_bounds-take_pairs-end c = sym (many (goal.at.slice_bounds-take_pairs-end c).Start)

pub take_pairs-requires : goal.take_pairs-requires
take_pairs-requires c = let s = (goal.at.take_pairs-requires c).Start in
    let e = many s in
    let p = s.requires.sizes in record { sizes = (p.0, omega (arith, e, p), omega (arith, e, p)); weights = subst (λ n. ranged s.args.row.now s.args.heads n ≡ true) (sym e) s.requires.weights }

pub returns : goal.returns
returns c =
    let s = (goal.at.returns c).Start in
    let a = s.args in
    let t = c.take_pairs in
    subst
    (λ n.
    TurnTaken (room a.rules (length a.free.now) (rule_of a.row.now (Ok (Weighed a.kind a.heads n))) a.next) a.free.now t.new.free t.result)
    (many s) t.ensures
