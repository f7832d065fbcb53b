-- A tree of splits as it is lent: numbers, the texts of the ends in one, and their lengths. Document 02, Change 14.
-- Assumes nothing.
use Rattle.std.specs.Prelude.{Bool, cond, not, ◌&&◌, List, [], ◌∷◌, ◌++◌, ℕ, zero, suc, ◌+◌, eqb, length, take, drop}
use Rattle.words.specs.Lists.{any}
use Rattle.derivation.specs.States.{is_atom}

-- an end, or a split on an atom with its two sides, "the demanding side first"
pub data Shape : Type 0 where
  end : Shape
  split : ℕ → (demanding other : Shape) → Shape

-- a tree with the numbers that follow it, or none
pub data Parsed : Type 0 where
  bad : Parsed
  found : Shape → List ℕ → Parsed

abbrev pub and_then : Parsed → (Shape → List ℕ → Parsed) → Parsed
and_then bad f = bad
and_then (found t rest) f = f t rest

-- "The tree is lent as 16-bit numbers, each split's atom before its two sides, the demanding side first, and 0 for an end". The depth is
-- how many splits are left: "Deeper trees, a list that is no such tree .., a foreign atom, or an atom split twice on a path" are none.
-- `path` are the atoms split above, and N is the program's.
unfoldable pub tree_of : (depth : ℕ) → (path : List ℕ) → (N : ℕ) → List ℕ → Parsed
tree_of zero path N [] = bad
tree_of zero path N (v ∷ numbers) = cond (eqb v 0) (found end numbers) bad
tree_of (suc depth) path N [] = bad
tree_of (suc depth) path N (v ∷ numbers) =
    cond (eqb v 0) (found end numbers)
    (cond (is_atom N v && not (any (eqb v) path))
    (and_then (tree_of depth (path ++ (v ∷ [])) N numbers)
    (λ l rest. and_then (tree_of depth (path ++ (v ∷ [])) N rest) (λ r rest'. found (split v l r) rest')))
    bad)

-- "A tree up to six splits deep"
abbrev pub most_splits : ℕ
most_splits = 6

-- how many ends a tree has
abbrev pub leaves : Shape → ℕ
leaves end = 1
leaves (split v l r) = leaves l + leaves r

abbrev pub sum : List ℕ → ℕ
sum [] = 0
sum (n ∷ ns) = n + sum ns

-- "the ends' texts are lent in that order with their lengths"
abbrev pub ends : (texts lengths : List ℕ) → List (List ℕ)
ends texts [] = []
ends texts (n ∷ ns) = take n texts ∷ ends (drop n texts) ns

-- the lengths are those of so many ends, and of all bytes: otherwise the list "does not match the lengths"
abbrev pub matches : Shape → (texts lengths : List ℕ) → Bool
matches t texts lengths = eqb (leaves t) (length lengths) && eqb (sum lengths) (length texts)
