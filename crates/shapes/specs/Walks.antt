-- What the private functions that walk the numbers of a tree leave. No reader of a public contract needs it.
-- Assumes nothing.
use Rattle.std.specs.Prelude.{◌≡◌, Bool, false, ◌&&◌, List, [], ◌∷◌, ℕ, ◌≤◌, eqb, length, drop, Option, Some, None}
use Rattle.shapes.specs.Tree.{Shape, Parsed, bad, found, leaves, sum}
use Rattle.shapes.specs.declared.Walked.{Walked}

-- what a walk finds, of what stands there
abbrev pub Walks : Parsed → (numbers : List ℕ) → Option Walked → Type 0
Walks p numbers (Some w) = (t : Shape) × (p ≡ found t (drop w.numbers numbers)) × (w.ends ≡ leaves t) × (w.ends ≤ w.numbers) × (w.numbers ≤ length numbers)
Walks p numbers None = p ≡ bad

-- 64, with texts of so many bytes
abbrev pub is_tree : Parsed → (size : ℕ) → (lengths : List ℕ) → Bool
is_tree bad size lengths = false
is_tree (found t (n ∷ ns)) size lengths = false
is_tree (found t []) size lengths = eqb (leaves t) (length lengths) && eqb (sum lengths) size
