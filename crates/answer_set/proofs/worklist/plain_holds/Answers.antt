use Prim.Native.Nat.{◌<◌}
use lib.ListN.{length}
use Rattle.std.proofs.Common.{rules}
use Rattle.std.proofs.lemmas.Iterator.{first_from_Range}
use Rattle.std.proofs.lemmas.Option.{MatchOption-at_some}
use Rattle.answer_set.proofs.worklist.plain_holds.Goals as goal
use Rattle.answer_set.proofs.worklist.plain_holds.Goals.{In-Some}

-- the place that is found is one of the body
within : (c : In-Some) → c.in-Some.i < length c.args.body.now
within c =
    (MatchOption-at_some _ _ c.in-Some.i c.in-Some.is
    (first_from_Range _ _ _ c.find-open.result (λ i. Unit) (λ i. Unit) c.find-open.ensures.ran (λ i g k. tt) (λ i g k. (search rules, tt)))).1

pub offset_bounds-body-i : goal.offset_bounds-body-i
offset_bounds-body-i c = let h = within (goal.at.offset_bounds-body-i c).In-Some in search rules

pub bounds-body-i : goal.bounds-body-i
bounds-body-i c = within (goal.at.bounds-body-i c).In-Some
