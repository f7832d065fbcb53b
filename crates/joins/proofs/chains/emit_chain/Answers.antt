use native.Mathlib.Omega.{arith}
use Rattle.joins.proofs.Chained.{first-at, from_first}
use Rattle.joins.proofs.chains.emit_chain.Goals as goal

pub emit_part-first-requires : goal.emit_part-first-requires
emit_part-first-requires c = let s = c in
    let p = s.requires.pairs in
    let g = s.requires.group in
    let r = s.requires.room in record { place = s.requires.place; pairs = (p.0, p.1); part = (omega arith, omega (arith, g), omega (arith, g, p.2)); room = (r.0, r.1, r.2, r.3); atoms = omega (arith, s.requires.atoms) }

pub emit_rest-requires : goal.emit_rest-requires
emit_rest-requires c = let s = c in
    let y = c.emit_part-first in
    let e = y.ensures in
    let r = s.requires.room in
    let k = y.auto in record { first = (e.within.1, e.levels); written = (s.args.output.now, s.args.place, first-at s.args.group s.args.bound s.args.pairs.now e.within.0 e.rules); pairs = s.requires.pairs; group = s.requires.group; atoms = omega (arith, e.within.0, s.requires.atoms); room = (omega (arith, k.inside, r.0), omega (arith, k.outside, r.1), omega (arith, k.spare, r.2), omega (arith, k.levels, r.3), r.4, r.5) }

pub returns : goal.returns
returns c =
    let a = c.args in
    let e = c.emit_part-first.ensures in
    from_first a.group a.bound a.pairs.now e.within.0 c.emit_rest.ensures e.rules
