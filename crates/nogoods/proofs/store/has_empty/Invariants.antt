use mathlib.Core.Path.{◌≡◌}
use Prim.Native.Nat.{◌-◌}
use Rattle.words.specs.Lists.{any}
use Rattle.aspif.specs.Rules.{is_empty}
use Rattle.nogoods.specs.Store.{live}
use Rattle.nogoods.proofs.Recorded.{Ahead}
use Rattle.nogoods.proofs.store.has_empty.Given as goal

abbrev pub invariant-loop-i : goal.invariant-loop-i
invariant-loop-i l = Ahead (λ stored left. any is_empty (live left) ≡ any is_empty (live stored)) l.store l.used l.i

abbrev pub decreases-loop-i : goal.decreases-loop-i
decreases-loop-i l = l.used - l.i
