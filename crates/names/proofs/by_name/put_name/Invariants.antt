use mathlib.Core.Logic.{◌⊎◌}
use Rattle.std.proofs.Common.{◌≡◌}
use Rattle.names.specs.ByName.{Taken}
use Rattle.names.proofs.by_name.put_name.Given as goal

abbrev pub invariant-loop-k : goal.invariant-loop-k
invariant-loop-k l = (l.bodies ≡ l.initial.bodies) × ((l.k ≡ 0) ⊎ Taken l.bodies l.first)
