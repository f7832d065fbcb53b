use mathlib.Core.Path.{◌≡◌}
use Prim.Native.Nat.{◌+◌, ◌-◌, ◌≤◌}
use lib.ListN.{length}
use Rattle.nogoods.specs.Store.{live}
use Rattle.nogoods.proofs.Recorded.{Ahead}
use Rattle.nogoods.proofs.store.count.Given as goal

abbrev pub invariant-loop-i : goal.invariant-loop-i
invariant-loop-i l = (l.n ≤ l.i) × Ahead (λ stored left. l.n + length (live left) ≡ length (live stored)) l.store l.used l.i

abbrev pub decreases-loop-i : goal.decreases-loop-i
decreases-loop-i l = l.used - l.i
