-- The loop keeps `Closing`: the live nogoods before `from` stand in the first `to` words.
use Prim.Native.Nat.{◌≤◌}
use lib.ListN.{length}
use Rattle.nogoods.specs.Records.{end_at}
use Rattle.nogoods.proofs.Closing.{closing-start, closing-next, closing-room, closing-over}
use Rattle.nogoods.proofs.store.close.Goals as goal
use Rattle.nogoods.proofs.store.close.Goals.{In-loop-from}

pub loop-from-init : goal.loop-from-init
loop-from-init c = closing-start _ _

room : (c : In-loop-from) → end_at c.loop-from.store c.loop-from.from ≤ length c.loop-from.store
room c = closing-room c.loop-from.invariant c.requires c.loop-from-test.true

pub end_at-end-requires : goal.end_at-end-requires
end_at-end-requires c = room (goal.at.end_at-end-requires c).In-loop-from

pub keep-to-requires : goal.keep-to-requires
keep-to-requires c = let i = (goal.at.keep-to-requires c).In-loop-from in (i.loop-from.invariant.low, room i)

pub loop-from-preserved : goal.loop-from-preserved
loop-from-preserved c =
    let e = c in
    let i = c in
    rw e.end_at-end.ensures
    (closing-next i.loop-from.invariant i.requires i.loop-from-test.true _ _ c.keep-to.ensures)

pub returns : goal.returns
returns c =
    λ stored H.
    let k = c in
    closing-over k.loop-from.invariant k.loop-from-test.false c.zero_all.new.items c.zero_all.ensures stored H
