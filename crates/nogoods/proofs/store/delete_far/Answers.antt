use mathlib.Core.Path.{sym, ◌∙◌}
use mathlib.Core.List.{List}
use Rattle.nogoods.specs.Store.{Stored}
use Rattle.nogoods.specs.Keeps.{Holds}
use Rattle.nogoods.specs.Finds.{Skips}
use Rattle.nogoods.proofs.Stored.{Hit, hit, miss, hit-room, hit-killed}
use Rattle.nogoods.proofs.store.delete_far.Goals as goal
use Rattle.nogoods.proofs.store.delete_far.Goals.{In-Some}

-- the nogood that was found
found : (c : In-Some) (stored : List Stored) → let a = c.args in
    Holds a.store.now a.used stored → Skips a.from a.literals.now stored → Hit 0 c.in-Some.i a.literals.now stored
found c stored H S = hit 0 _ _ stored (sym (c.find.ensures stored H S) ∙ c.in-Some.is)

pub kill-requires : goal.kill-requires
kill-requires c = let d = (goal.at.kill-requires c).In-Some in let p = d.requires in hit-room p.1 (found d p.0 p.1 p.2)

pub returns-in-Some : goal.returns-in-Some
returns-in-Some c =
    λ stored H S.
    let d = (goal.at.returns-in-Some c).In-Some in
    rw c.kill.ensures (hit-killed H (found d stored H S))

pub returns-in_default : goal.returns-in_default
returns-in_default c = λ stored H S. rw (miss 0 _ stored (sym (c.find.ensures stored H S) ∙ c.in_default.is)) H
