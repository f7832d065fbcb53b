-- What the code that goes over the pairs of a weight body holds on to: some literals are chosen, of weight k and the least of them of
-- weight m; which of the others complete them to a minimal set. No reader of a public contract needs it.
-- Assumes nothing.
use Rattle.std.specs.Prelude.{Bool, false, ◌&&◌, List, [], ◌∷◌, map, ℕ, suc, ◌+◌, leb, ltb, ℤ}
use Rattle.words.specs.Lists.{all, filter}
use Rattle.words.specs.Literals.{same}
use Rattle.weights.specs.Weights.{Weighted, sum, literals, sublists, most_sum}

-- with s the chosen ones reach the bound, and without any one of them they do not
abbrev pub completes : ℕ → ℕ → ℕ → List Weighted → Bool
completes b k m s = leb b (k + sum s) && (ltb (k + sum s) (b + m) && all (λ x. ltb (k + sum s) (b + x.weight)) s)

-- the literals of those that do, in the order of `sublists`
unfoldable pub ends : ℕ → ℕ → ℕ → List Weighted → List (List ℤ)
ends b k m l = map literals (filter (completes b k m) (sublists l))

-- no weight of a rule is as much as this: the least of no weights
abbrev pub no_least : ℕ
no_least = suc most_sum

-- the words start with x
abbrev pub starts_with : ℤ → List ℤ → Bool
starts_with x [] = false
starts_with x (y ∷ l) = same y x
