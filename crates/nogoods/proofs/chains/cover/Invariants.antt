use mathlib.Core.Path.{◌≡◌}
use mathlib.Core.List.{List}
use Prim.Native.Nat.{◌-◌}
use lib.ListN.{length, get_or}
use Rattle.nogoods.specs.Store.{Stored}
use Rattle.nogoods.specs.Index.{Keeps, covered_at}
use Rattle.nogoods.proofs.chains.cover.Given as goal

abbrev pub invariant-loop-r : goal.invariant-loop-r
invariant-loop-r l = (length l.index ≡ length l.initial.index) × (l.r ≡ get_or l.index (covered_at l.m) 0) × ((stored : List Stored) → Keeps l.store l.initial.index l.used stored → Keeps l.store l.index l.used stored)

abbrev pub decreases-loop-r : goal.decreases-loop-r
decreases-loop-r l = l.used - l.r
