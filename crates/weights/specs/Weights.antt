-- Weight bodies: a plain body "for each subset-minimal set of literals that reaches the bound" (document 02, Change 3; document 000, section 2.1).
-- Assumes nothing.
use Rattle.std.specs.Prelude.{Bool, ◌&&◌, List, [], ◌∷◌, ◌++◌, map, ℕ, ◌+◌, ◌*◌, leb, ltb, ℤ, pos}
use Rattle.words.specs.Lists.{all, filter}
use Rattle.words.specs.Literals.{variable}

-- "Bound and weights are 0 to 4,095; at most 12 literals"
abbrev pub most_weight : ℕ
most_weight = 4095

abbrev pub most_weighted : ℕ
most_weighted = 12

-- what the weights of one rule add up to is at most this
abbrev pub most_sum : ℕ
most_sum = most_weighted * most_weight

-- a literal with its weight
pub record Weighted : Type 0 where
  pub literal : ℤ
  pub weight : ℕ

-- what the weights add up to
abbrev pub sum : List Weighted → ℕ
sum [] = 0
sum (x ∷ l) = x.weight + sum l

abbrev pub literals : List Weighted → List ℤ
literals l = map (λ x. x.literal) l

-- the lists that are left where some elements are taken out: first those with the first element, then those without
unfoldable pub sublists : {A : Type 0} → List A → List (List A)
sublists [] = [] ∷ []
sublists (x ∷ l) = map (λ s. x ∷ s) (sublists l) ++ sublists l

-- the weights reach the bound, and without any one of the literals they do not
abbrev pub is_minimal : ℕ → List Weighted → Bool
is_minimal b s = leb b (sum s) && all (λ x. ltb (sum s) (b + x.weight)) s

-- the minimal sets of the literals that reach the bound
unfoldable pub minimal_sets : ℕ → List Weighted → List (List Weighted)
minimal_sets b l = filter (is_minimal b) (sublists l)

-- the bodies of the plain rules that a rule with a weight body stands for
unfoldable pub bodies : ℕ → List Weighted → List (List ℤ)
bodies b l = map literals (minimal_sets b l)

-- the pairs in words, as they stand in a table: each literal with its weight behind it
abbrev pub pair_words : List Weighted → List ℤ
pair_words [] = []
pair_words (x ∷ l) = x.literal ∷ pos x.weight ∷ pair_words l

-- and the pairs that such words are
abbrev pub paired : List ℤ → List Weighted
paired [] = []
paired (z ∷ []) = []
paired (z ∷ w ∷ l) = record { literal = z; weight = variable w } ∷ paired l
