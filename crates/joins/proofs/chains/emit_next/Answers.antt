use mathlib.Core.List.{◌++◌}
use native.Mathlib.Omega.{arith}
use Rattle.joins.specs.Chaining.{after, pairs_to, pairs_from, pairs_within, prefix_levels}
use Rattle.joins.proofs.Linked.{few-group, levels-front, count-is, turn-emits}
use Rattle.joins.proofs.chains.emit_next.Goals as goal

pub emit_part-side-requires : goal.emit_part-side-requires
emit_part-side-requires c = let s = c in
    let r = s.requires.room in record { place = s.requires.node.0; pairs = s.requires.pairs; part = s.requires.part; room = (r.0, r.1, r.2, r.4); atoms = omega (arith, s.requires.node.3) }

pub emit_prefix-requires : goal.emit_prefix-requires
emit_prefix-requires c = let s = c in
    let y = c.emit_part-side in
    let e = y.ensures in
    let r = s.requires.room in
    let ws = s.args.pairs.now in
    let b = s.requires.pairs.1 in
    let p = s.requires.part in
    let n = count-is y.new.levels e.within.1 e.levels in record {
      place = e.rules.bounded;
      pairs = (s.requires.pairs.0, b, p.2);
      room = (omega (arith, y.auto.inside, r.0), omega (arith, y.auto.outside, r.1), omega (arith, y.auto.spare, r.2), r.3, r.5);
      within = (s.requires.node.1, e.within.1);
      levels = (
        levels-front b (pairs_from s.args.from ws) (pairs_to s.args.from ws) s.requires.node.2,
        levels-front b (pairs_to s.args.from ws ++ pairs_from s.args.to ws) (pairs_within s.args.from s.args.to ws) e.levels,
      );
      atoms = (omega (arith, s.requires.node.3), omega (arith, s.requires.node.3, e.within.0, n, few-group s.args.bound s.args.from s.args.to s.args.pairs.now, b));
    }

pub returns : goal.returns
returns c = let s = c in
    let a = s.args in
    let ws = a.pairs.now in
    let y = c.emit_part-side in
    let e = y.ensures in
    let f = c.emit_prefix.ensures in
    let n = count-is y.new.levels e.within.1 e.levels in record { rules = turn-emits a.node.first (after a.node) (pairs_within a.from a.to ws) (prefix_levels a.bound a.to ws) s.requires.node.2 e.levels e.within.0 n e.rules f.rules; levels = f.levels; within = (omega (arith, f.within.0, e.within.0, n), f.within.1) }
