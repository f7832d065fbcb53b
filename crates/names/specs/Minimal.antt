-- The names of the bodies of one weight rule, marked: what private functions of the checker cite.
-- Assumes nothing.
use Rattle.std.specs.Prelude.{◌≡◌, Bool, not, ◌&&◌, ◌||◌, List, ◌++◌, map, ℕ, ◌+◌, ◌≤◌, ltb, ℤ, length, take}
use Rattle.words.specs.Limits.{largest, entries}
use Rattle.words.specs.Lists.{any, filter}
use Rattle.words.specs.Literals.{ascending}
use Rattle.weights.specs.Weights.{Weighted, sum, bodies, paired, most_weight, most_weighted, most_sum}
use Rattle.weights.specs.Completing.{ends, no_least}
use Rattle.marks.specs.Marks.{marked, listed}
use Rattle.names.specs.Queries.{is_inside}
use Rattle.names.specs.ByName.{Called}

-- the marks are those that were there and those of the numbers listed, as far as these are variables or 0
pub record AlsoMarks (before after l : List ℕ) : Type 0 where
  pub long : length after ≡ length before
  pub has : (v : ℕ) → v ≤ largest → marked after v ≡ (marked before v || listed l v)

-- a pair that bodies without a positive atom of the marked set may have: it weighs something, and its literal is not such an atom
abbrev pub is_usable : List ℕ → Weighted → Bool
is_usable m x = ltb 0 x.weight && not (is_inside m x.literal)

-- the bodies without a positive atom of the marked set
abbrev pub bodies_outside : List ℕ → ℕ → List Weighted → List (List ℤ)
bodies_outside m b l = filter (λ ls. not (any (is_inside m) ls)) (bodies b l)

-- The recursion over the pairs: the first n words of `body` are the chosen literals, of weight `total` and the least of them of weight
-- `least`; `left` is what the pairs add up to, and with them the bound is reached

pub record Choosing (pairs : List ℤ) (bound total least left : ℕ) (body : List ℤ) (n : ℕ) (found : List ℕ) : Type 0 where
  pub small : bound ≤ most_weight
  pub light : least ≤ no_least
  pub fits : total + left ≤ most_sum
  pub sums : left ≡ sum (paired pairs)
  pub reaches : bound ≤ total + left
  pub row : length body ≡ most_weighted
  pub room : n + length (paired pairs) ≤ most_weighted
  pub marks : length found ≡ entries

-- the names of all bodies that the pairs complete the chosen literals to are marked too; these literals stand as they did
pub record MarksEnds (pairs : List ℤ) (bound total least n : ℕ) (before after bodies : List ℤ) (found found' : List ℕ) : Type 0 where
  pub keeps : take n after ≡ take n before
  pub also : (called : List ℤ → ℕ) → Called bodies called
      → AlsoMarks found found' (map (λ t. called (ascending (take n before ++ t))) (ends bound total least (paired pairs)))
