-- What the functions on the store count on and leave. It serves private functions; no reader of a public contract needs it.
-- Assumes nothing.
use Rattle.std.specs.Prelude.{◌≡◌, true, List, ◌++◌, ℕ, ◌≤◌, ℤ, length, drop}
use Rattle.words.specs.Limits.{largest}
use Rattle.words.specs.Lists.{◌∈◌}
use Rattle.words.specs.Literals.{variable, distinct}
use Rattle.nogoods.specs.Store.{Stored, words_of, store_words}

-- from before to after the words were written at the front, and the rest is as it was
abbrev pub WrittenFront : List ℤ → List ℤ → List ℤ → Type 0
WrittenFront words before after = after ≡ words ++ drop (length words) before

-- What propagation may count on: a literal's variable is 1 to the largest, and no variable stands twice.
pub record Literals (g : List ℤ) : Type 0 where
  pub low : (x : ℤ) → x ∈ g → 1 ≤ variable x
  pub high : (x : ℤ) → x ∈ g → variable x ≤ largest
  pub once : distinct g ≡ true

-- The store holds what is stored, the dead included, in its first `used` words, and 0 after them. An origin is at least 1, so that
-- the sign of its word says whether the nogood is dead.
pub record Holds (store : List ℤ) (used : ℕ) (stored : List Stored) : Type 0 where
  pub words : store ≡ store_words (length store) stored
  pub extent : used ≡ length (words_of stored)
  pub fits : used ≤ length store
  pub literals : (e : Stored) → e ∈ stored → Literals e.literals
  pub origins : (e : Stored) → e ∈ stored → 1 ≤ e.origin
