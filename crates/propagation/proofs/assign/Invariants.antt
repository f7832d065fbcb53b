use mathlib.Core.Path.{◌≡◌}
use Prim.Native.Nat.{ℕ, ◌≤◌, ◌<◌}
use lib.IntN.{ℤ, pos}
use lib.ListN.{length, get_or}
use Rattle.words.specs.Lists.{◌∈◌}
use Rattle.words.specs.Limits.{entries}
use Rattle.propagation.specs.Propagate.{Assigns, BlankFrom}
use Rattle.propagation.proofs.assign.Given as goal

abbrev pub invariant-loop-literal : goal.invariant-loop-literal
invariant-loop-literal l =
    (length l.assignment ≡ entries)
    × ((j : ℕ) → j < l.literal-index → Assigns l.assignment (get_or l.literals j (pos 0))) × ((z : ℤ) → Assigns l.assignment z → z ∈ l.literals)
    × ((l.end ≤ entries) × BlankFrom l.end l.assignment)
