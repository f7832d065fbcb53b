use mathlib.Core.Path.{◌≡◌, refl, sym, ap}
use mathlib.Core.List.{[], ◌∷◌, ◌++◌}
use Prim.Native.Nat.{◌+◌, ◌≤◌}
use native.Mathlib.Omega.{arith}
use lib.ListN.{length}
use lib.Seq.{length-take-le}
use Rattle.text.specs.Writing.{farthest}
use Rattle.joins.specs.Chaining.{after, pairs_to, pairs_from, pairs_within, group_levels}
use Rattle.joins.proofs.Linked.{few-group, levels-front, count-is, turn-emits}
use Rattle.joins.proofs.chains.emit_last.Goals as goal
use Rattle.joins.proofs.chains.emit_last.Goals.{After-emit_part-side}

pub emit_part-side-requires : goal.emit_part-side-requires
emit_part-side-requires c = let s = c in
    let r = s.requires.room in record { place = s.requires.node.0; pairs = s.requires.pairs; part = s.requires.part; room = r; atoms = omega (arith, s.requires.node.3) }

counted : (c : After-emit_part-side) → c.emit_part-side.result.count ≡ length (group_levels c.args.bound c.args.from c.args.to c.args.pairs.now)
counted c = let y = c.emit_part-side in let e = y.ensures in count-is y.new.levels e.within.1 e.levels

-- the next atoms are in reach
atoms : (c : After-emit_part-side) → after c.args.node + c.emit_part-side.result.count + 4096 ≤ farthest
atoms c = let s = c in omega (arith, counted c, few-group s.args.bound s.args.from s.args.to s.args.pairs.now, s.requires.pairs.1, s.requires.node.3)

pub overflow_add-atom-2 : goal.overflow_add-atom-2
overflow_add-atom-2 c = record { fits = omega (arith, atoms (goal.at.overflow_add-atom-2 c).After-emit_part-side) }

pub slice_bounds-emit_node-end-2 : goal.slice_bounds-emit_node-end-2
slice_bounds-emit_node-end-2 c = let s = c in sym (length-take-le s.args.node.count s.args.left.now s.requires.node.1)

pub slice_bounds-emit_node-end-4 : goal.slice_bounds-emit_node-end-4
slice_bounds-emit_node-end-4 c = sym (length-take-le _ _ c.emit_part-side.ensures.within.1)

pub emit_node-place-requires : goal.emit_node-place-requires
emit_node-place-requires c = let s = c in
    let d = (goal.at.emit_node-place-requires c).After-emit_part-side in
    let e = d.emit_part-side.ensures in
    let b = s.requires.pairs.1 in
    let ws = s.args.pairs.now in
    let h = atoms d in record {
      place = e.rules.bounded;
      levels = (
        levels-front b (pairs_from s.args.from ws) (pairs_to s.args.from ws) s.requires.node.2,
        levels-front b (pairs_to s.args.from ws ++ pairs_from s.args.to ws) (pairs_within s.args.from s.args.to ws) e.levels,
      );
      atoms = (
        omega (arith, h, length-take-le s.args.node.count s.args.left.now s.requires.node.1),
        omega (arith, h, ap length e.levels, counted d),
        omega (arith, h),
      );
    }

pub returns : goal.returns
returns c = let s = c in
    let a = s.args in
    let d = (goal.at.returns c).After-emit_part-side in
    let e = d.emit_part-side.ensures in
    let n = counted d in record { rules = turn-emits a.node.first (after a.node) (pairs_within a.from a.to a.pairs.now) (a.bound ∷ []) s.requires.node.2 e.levels refl n e.rules c.emit_node-place.ensures; atom = omega (arith, n) }
