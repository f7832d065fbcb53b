use Rattle.aspif.specs.Tables.{rules_at}
use Rattle.loops.proofs.Reaching.{no_loop, loop-if}
use Rattle.loops.proofs.is_loop.Goals as goal

pub edges_of-edges-requires : goal.edges_of-edges-requires
edges_of-edges-requires c = let s = c in record { program = s.requires.program; index = s.requires.index; places = (s.requires.numbers, c.places_of-places.ensures) }

pub search-ahead-requires : goal.search-ahead-requires
search-ahead-requires c = c.requires.numbers.few

pub search-behind-requires : goal.search-behind-requires
search-behind-requires c = c.requires.numbers.few

pub returns-then-is_full : goal.returns-then-is_full
returns-then-is_full c =
    let b = c in
    let y = c in
    let f = c in
    let a = c in
    let e = c in
    let p = c in
    let s = c in
    loop-if (rules_at s.args.rules s.args.table.now) s.args.numbers.now s.requires.numbers p.places_of-places.ensures
    e.edges_of-edges.ensures _ _ _ _
    a.search-ahead.ensures f.is_full.ensures y.if-is_full.true b.search-behind.ensures c.is_full-then-is_full.ensures

pub returns : goal.returns
returns c =
    let f = c in
    let a = c in
    let e = c in
    let p = c in
    let s = c in
    no_loop (rules_at s.args.rules s.args.table.now) s.args.numbers.now s.requires.numbers p.places_of-places.ensures
    e.edges_of-edges.ensures _ _
    a.search-ahead.ensures f.is_full.ensures c.if-is_full.false
