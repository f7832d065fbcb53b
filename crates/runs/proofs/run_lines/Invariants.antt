use mathlib.Core.Path.{◌≡◌}
use mathlib.Core.List.{List}
use Prim.Native.Nat.{◌-◌}
use lib.ListN.{length, replicate}
use Rattle.aspif.specs.Rules.{InputRule}
use Rattle.words.specs.Limits.{entries, most_numbers}
use Rattle.steps.specs.Held.{Program}
use Rattle.runs.proofs.Courses.{Going}
use Rattle.runs.proofs.run_lines.Given as goal

abbrev pub invariant-lines : goal.invariant-lines
invariant-lines l =
    (ws : List InputRule) × Program l.table l.rules l.atoms ws × Going l.atoms ws (length l.initial.store) l.proof l.store l.index l.known l.names l.bodies l.state.used l.state.at l.state.steps × (length l.known ≡ length l.initial.known) × (length l.names ≡ length l.initial.names)
    × (length l.bodies ≡ length l.initial.bodies) × (length l.numbers ≡ most_numbers) × (length l.sorted ≡ most_numbers) × (l.assignment ≡ replicate entries 0) × (length l.index ≡ length l.initial.index)

abbrev pub decreases-lines : goal.decreases-lines
decreases-lines l = length l.proof - l.state.at
