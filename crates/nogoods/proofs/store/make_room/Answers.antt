-- All is kept; or the index is blank, the search has its own cells, and the store is closed up.
use Rattle.nogoods.specs.Index.{BlankIndex}
use Rattle.nogoods.proofs.Stored.{kept-live}
use Rattle.nogoods.proofs.Indexing.{keeps-blank, keeps-part}
use native.Mathlib.Omega.{arith}
use Rattle.nogoods.proofs.store.make_room.Goals as goal

pub returns : goal.returns
returns c stored K =
    let r = c.reset in
    let o = c in
    let k = c in
    let e = c in
    let blank : BlankIndex k.clear.new.index = rw k.clear.auto.index k.clear.ensures in
    rw (kept-live K.holds e.args.size (omega (arith, e.if-size-store.false)))
    (keeps-part o.start_of-at.result k.clear.new.index r.new.cells o.start_of-at.ensures.upper_bound r.auto.cells o.start_of-at.ensures.value
    (keeps-blank (c.close.ensures stored K.holds) blank))
