use mathlib.Core.Path.{◌≡◌}
use mathlib.Core.List.{List}
use Prim.Native.Nat.{ℕ, ◌-◌, ◌≤◌}
use lib.ListN.{length}
use Rattle.words.specs.Limits.{entries, most_numbers}
use Rattle.aspif.specs.Rules.{InputRule}
use Rattle.drupe.specs.Texts.{Step}
use Rattle.derivation.specs.States.{State}
use Rattle.renaming.specs.Renames.{Halves}
use Rattle.renaming.proofs.Renamed.{Walked}
use Rattle.renaming.proofs.renames.rename_all.Given as goal

abbrev pub invariant-loop-next : goal.invariant-loop-next
invariant-loop-next l =
    ((ws : List InputRule) (v : ℕ) (one two : List Step) (z₁ z₂ : State) (H : Halves l.second l.table l.rules l.atoms l.known1 l.known2 l.names l.bodies ws v one two z₁ z₂) → Walked H l.at l.cursor l.new l.shared)
    × (length l.new ≡ entries) × (length l.shared ≡ entries) × (length l.numbers ≡ most_numbers) × (length l.sorted ≡ most_numbers) × (l.at ≤ length l.second) × (l.cursor ≤ entries)

abbrev pub decreases-loop-next : goal.decreases-loop-next
decreases-loop-next l = length l.second - l.at
