use mathlib.Core.Path.{◌≡◌}
use mathlib.Core.List.{List}
use Prim.Native.Nat.{ℕ, suc}
use lib.IntN.{ℤ}
use lib.ListN.{length}
use Rattle.aspif.specs.Tables.{rules_at}
use Rattle.heads.specs.Heads.{hash_from, BodyPlace}
use Rattle.names.proofs.ByRule.{ByRule}
use Rattle.heads.proofs.Bodies.{Naming}
use Rattle.heads.proofs.enter_rules.Given as goal

abbrev pub invariant-loop-p : goal.invariant-loop-p
invariant-loop-p l =
    (length l.names ≡ length l.initial.names)
    × ((q : ℕ) → l.p ≡ suc q → BodyPlace l.table l.rules q (hash_from 0 l.body))
    × ((called : List ℤ → ℕ) → ByRule called (rules_at l.rules l.table) l.initial.names → Naming l.table l.rules l.body l.name called l.names l.p)

abbrev pub decreases-loop-p : goal.decreases-loop-p
decreases-loop-p l = l.p
