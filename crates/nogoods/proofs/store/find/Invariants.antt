use mathlib.Core.Path.{◌≡◌}
use mathlib.Core.List.{List}
use Prim.Native.Nat.{◌-◌}
use Rattle.nogoods.specs.Store.{Stored}
use Rattle.nogoods.specs.Finds.{found_at, Skips}
use Rattle.nogoods.specs.Keeps.{Holds}
use Rattle.nogoods.proofs.Recorded.{Rest}
use Rattle.nogoods.proofs.store.find.Given as goal

abbrev pub invariant-loop-i : goal.invariant-loop-i
invariant-loop-i l = (stored : List Stored) → Holds l.store l.used stored → Skips l.from l.literals stored → Rest (λ all left. found_at l.i l.literals left ≡ found_at 0 l.literals all) l.store l.used stored l.i

abbrev pub decreases-loop-i : goal.decreases-loop-i
decreases-loop-i l = l.used - l.i
