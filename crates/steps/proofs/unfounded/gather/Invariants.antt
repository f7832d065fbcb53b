use mathlib.Core.Path.{◌≡◌}
use Prim.Native.Nat.{◌-◌, ◌≤◌, ◌<◌}
use lib.ListN.{length, take}
use Rattle.marks.specs.Marks.{marked}
use Rattle.steps.specs.Held.{gathered}
use Rattle.steps.proofs.unfounded.gather.Given as goal

abbrev pub invariant-loop-v : goal.invariant-loop-v
invariant-loop-v l = (1 ≤ l.v) × (l.v ≤ l.end) × (l.count < l.v) × (length l.row ≡ length l.initial.row) × (take l.count l.row ≡ gathered (marked l.found) l.h (l.v - 1) 1)
