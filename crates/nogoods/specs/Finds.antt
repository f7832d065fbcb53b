-- Where a nogood stands in the store. It serves the private `find`; no reader of a public contract needs it.
-- Assumes nothing.
use Rattle.std.specs.Prelude.{◌≡◌, cond, Option, Some, None, List, [], ◌∷◌, ◌++◌, ℕ, ◌+◌, ℤ, length}
use Rattle.nogoods.specs.Store.{Stored, is_target, record_size, words_of}

-- the place of the first live one whose literals are the list, where the words begin at i
abbrev pub found_at : ℕ → List ℤ → List Stored → Option ℕ
found_at i literals [] = None
found_at i literals (e ∷ stored) =
    cond (is_target literals e) (Some i) (found_at (i + record_size e.literals) literals stored)

-- a record begins at `from`, or none is left, and none of those before is such
pub record Skips (from : ℕ) (L : List ℤ) (stored : List Stored) : Type 0 where
  pub older : List Stored
  pub newer : List Stored
  pub is : stored ≡ older ++ newer
  pub size : from ≡ length (words_of older)
  pub none : found_at 0 L older ≡ None
