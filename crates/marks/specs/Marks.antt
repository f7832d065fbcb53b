-- Sets of variables: as lists of numbers, and as marks, document 01's term for bytes with an entry for each variable.
-- Assumes nothing.
use Rattle.std.specs.Prelude.{◌≡◌, Bool, true, false, cond, not, ◌&&◌, List, [], ◌∷◌, ℕ, zero, suc, ◌≤◌, eqb, length, get_or, set}
use Rattle.words.specs.Limits.{largest, entries}
use Rattle.words.specs.Lists.{any}

-- v is listed
abbrev pub listed : List ℕ → ℕ → Bool
listed l v = any (eqb v) l

-- "atom v is byte v, counted from 0", and it holds 1
abbrev pub marked : List ℕ → ℕ → Bool
marked m v = eqb (get_or m v 0) 1

-- "arrays of 4,096 entries", which are 8,192 since Change 6: the marks are those of the numbers listed, as far as these are variables or 0
pub record Marks (m l : List ℕ) : Type 0 where
  pub long : length m ≡ entries
  pub has : (v : ℕ) → v ≤ largest → marked m v ≡ listed l v

-- the numbers from n down to 1
abbrev pub up_to : ℕ → List ℕ
up_to zero = []
up_to (suc n) = suc n ∷ up_to n

-- two answers are the same
abbrev pub agree : Bool → Bool → Bool
agree a b = cond a b (not b)

-- the same numbers below n are marked
unfoldable pub same_marks : ℕ → List ℕ → List ℕ → Bool
same_marks zero a b = true
same_marks (suc n) a b = agree (marked a n) (marked b n) && same_marks n a b

-- a call that marks: what the marks are to be, and false only where no mark is new
pub record Marking (wanted before after : List ℕ) (new : Bool) : Type 0 where
  pub marks : after ≡ wanted
  pub still : new ≡ false → after ≡ before

-- every number of a list marked
abbrev pub mark_all : List ℕ → List ℕ → List ℕ
mark_all [] m = m
mark_all (v ∷ l) m = mark_all l (set m v 1)
