use mathlib.Core.Path.{refl, sym, ap}
use Prim.Native.Nat.{◌*◌, ◌-◌}
use native.Mathlib.Omega.{arith}
use lib.ListN.{length, drop, length-take}
use lib.Seq.{length-take-le}
use Rattle.words.proofs.Parts.{tail_of}
use Rattle.joins.proofs.Linked.{few-group, weights-take, weights-drop, weights-within}
use Rattle.joins.proofs.chains.emit_part.Goals as goal

pub slice_bounds-levels_of-end : goal.slice_bounds-levels_of-end
slice_bounds-levels_of-end c = let s = c in sym (length-take-le _ s.args.pairs.now (omega (arith, s.requires.part)))

pub levels_of-count-requires : goal.levels_of-count-requires
levels_of-count-requires c = let s = c in
    let a = s.args in
    let ws = a.pairs.now in
    let e = s.requires.pairs.0 in record { pairs = (weights-take a.from ws e, weights-within a.from a.to ws e, rw tail_of (weights-drop a.to ws e), s.requires.pairs.1); room = s.requires.room }

pub slice_bounds-emit_group-end-2 : goal.slice_bounds-emit_group-end-2
slice_bounds-emit_group-end-2 c = sym (length-take-le _ _ c.levels_of-count.ensures.within)

pub emit_group-place-requires : goal.emit_group-place-requires
emit_group-place-requires c = let s = c in
    let a = s.args in
    let ws = a.pairs.now in
    let long = length-take (2 * a.to - 2 * a.from) (drop (2 * a.from) ws) in
    let n = rw tail_of at c.levels_of-count.ensures.levels in
    let few-there = few-group a.bound a.from a.to ws in record { place = s.requires.place; pairs = (weights-within a.from a.to ws s.requires.pairs.0, omega (arith, long, s.requires.part)); atoms = omega (arith, s.requires.atoms, ap length n, few-there, s.requires.pairs.1) }

pub returns : goal.returns
returns c = let e = c.levels_of-count.ensures in
    let n = rw tail_of at e.levels in record { rules = rw n at c.emit_group-place.ensures; levels = n; within = (refl, e.within) }
