use mathlib.Core.Path.{◌≡◌, refl, sym, ap, ◌∙◌}
use mathlib.Core.List.{◌++◌}
use native.Mathlib.Omega.{arith}
use lib.ListN.{length, take, drop, length-append}
use lib.Seq.{length-take-le, take_at}
use Rattle.joins.proofs.Linked.{few-prefix}
use Rattle.joins.proofs.chains.emit_prefix.Goals as goal

pub prefix_levels-n-requires : goal.prefix_levels-n-requires
prefix_levels-n-requires c = let s = c in
    let r = s.requires.room in record { pairs = s.requires.pairs; room = (r.0, r.1, r.2, r.4) }

pub overflow_add-atom : goal.overflow_add-atom
overflow_add-atom c = let s = c in record { fits = omega (arith, s.requires.atoms) }

pub slice_bounds-emit_node-end-2 : goal.slice_bounds-emit_node-end-2
slice_bounds-emit_node-end-2 c = sym (length-take-le _ _ c.prefix_levels-n.ensures.within)

pub slice_bounds-emit_node-end-4 : goal.slice_bounds-emit_node-end-4
slice_bounds-emit_node-end-4 c = let s = c in sym (length-take-le s.args.node.count s.args.left.now s.requires.within.0)

pub slice_bounds-emit_node-end-5 : goal.slice_bounds-emit_node-end-5
slice_bounds-emit_node-end-5 c = let s = c in sym (length-take-le s.args.side.count s.args.right.now s.requires.within.1)

pub emit_node-place-requires : goal.emit_node-place-requires
emit_node-place-requires c = let s = c in
    let p = s.requires in
    let n = c.prefix_levels-n.ensures in record {
      place = s.requires.place;
      levels = p.levels;
      atoms = (
        omega (arith, p.atoms, length-take-le s.args.node.count s.args.left.now p.within.0),
        omega (arith, p.atoms, length-take-le s.args.side.count s.args.right.now p.within.1),
        omega (arith, p.atoms, ap length n.levels, few-prefix s.args.bound s.args.to s.args.pairs.now, s.requires.pairs.1),
      );
    }

pub slice_bounds-copy_sums-end-2 : goal.slice_bounds-copy_sums-end-2
slice_bounds-copy_sums-end-2 c = sym (length-take-le _ _ c.prefix_levels-n.ensures.within)

pub copy_sums-requires : goal.copy_sums-requires
copy_sums-requires c =
    let s = c in
    omega (arith, ap length c.prefix_levels-n.ensures.levels, few-prefix s.args.bound s.args.to s.args.pairs.now, s.requires.room.3)

pub returns : goal.returns
returns c = let s = c in
    let y = c.prefix_levels-n in
    let n = y.ensures in
    let front = take y.result y.new.levels in
    let back = drop (length front) s.args.left.now in
    let e : c.copy_sums.new.destination ≡ front ++ back = c.copy_sums.ensures in
    let k : length front ≡ y.result = length-take-le y.result y.new.levels n.within in record { rules = rw n.levels at c.emit_node-place.ensures; levels = ap (take y.result) e ∙ take_at front back y.result k ∙ n.levels; within = (refl, omega (arith, ap length e, k, length-append front back)) }
