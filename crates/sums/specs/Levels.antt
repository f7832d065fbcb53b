-- Which levels a plan has, and how a program is split. A node has a level for each sum of its literals that makes a difference to the bound.
-- Assumes nothing.
use Rattle.std.specs.Prelude.{Bool, cond, ◌&&◌, ◌||◌, List, [], ◌∷◌, ◌++◌, map, ℕ, zero, suc, ◌+◌, ◌≤◌, leb, ltb, length, take, drop}
use Rattle.words.specs.Lists.{any, all, filter}
use Rattle.words.specs.Literals.{variable}
use Rattle.weights.specs.Weights.{Weighted, most_weighted}
use Rattle.aspif.specs.Rules.{Body, plain, weights, InputRule}
use Rattle.sums.specs.Plans.{Plan, group, joined, Item, whole, divided, split}

-- the shape of a sum: groups of literals, two sides at a time
pub data SumShape : Type 0 where
  few : (pairs : List Weighted) → SumShape
  both : (left right : SumShape) → SumShape

abbrev pub pairs_in : SumShape → List Weighted
pairs_in (few l) = l
pairs_in (both s t) = pairs_in s ++ pairs_in t

-- numbers that ascend: each above the one before, the first at least `low`
abbrev pub Ascending : (low : ℕ) → List ℕ → Type 0
Ascending low [] = Unit {0}
Ascending low (u ∷ us) = (low ≤ u) × Ascending (suc u) us

-- two ascending lists in one, each number once; as many turns as there are numbers are enough
unfoldable pub merge : (turns : ℕ) → List ℕ → List ℕ → List ℕ
merge zero us vs = []
merge (suc n) [] vs = vs
merge (suc n) (u ∷ us) [] = u ∷ us
merge (suc n) (u ∷ us) (v ∷ vs) =
    cond (ltb u v) (u ∷ merge n us (v ∷ vs)) (cond (ltb v u) (v ∷ merge n (u ∷ us) vs) (u ∷ merge n us vs))

-- numbers that ascend, each w more and no more than b: the first that comes to b is the last
unfoldable pub raised : (b w : ℕ) → List ℕ → List ℕ
raised b w [] = []
raised b w (u ∷ us) = cond (ltb (u + w) b) ((u + w) ∷ raised b w us) (b ∷ [])

-- the sums with a literal of weight w more: without it and with it
unfoldable pub further : (b w : ℕ) → List ℕ → List ℕ
further b w us = merge (length us + length us) us (raised b w us)

-- what the weights of some of the pairs can add up to, and no more than b, ascending
unfoldable pub sums_of : (b : ℕ) → List Weighted → List ℕ
sums_of b [] = 0 ∷ []
sums_of b (x ∷ l) = further b x.weight (sums_of b l)

-- the sum that is always reached needs no level
abbrev pub no_level : ℕ
no_level = 0

-- u is above it and makes a difference: there is a sum of the other literals with which u reaches the bound, and nothing lower of us does
abbrev pub is_useful : (b : ℕ) → (others us : List ℕ) → ℕ → Bool
is_useful b others us u = ltb no_level u && any (λ o. leb b (u + o) && all (λ v. leb u v || ltb (v + o) b) us) others

abbrev pub useful : (b : ℕ) → (others us : List ℕ) → List ℕ
useful b others us = filter (is_useful b others us) us

-- the levels of some pairs, where the rest of the sum is `rest`
unfoldable pub levels_for : (b : ℕ) → (rest l : List Weighted) → List ℕ
levels_for b rest l = useful b (sums_of b rest) (sums_of b l)

-- the plan of a shape, for the bound b and the pairs outside it
unfoldable pub levelled : (b : ℕ) → (rest : List Weighted) → SumShape → Plan
levelled b rest (few l) = group (levels_for b rest l) l
levelled b rest (both s t) =
    joined (levels_for b rest (pairs_in s ++ pairs_in t)) (levelled b (pairs_in t ++ rest) s) (levelled b (pairs_in s ++ rest) t)

-- A rule whose sum is split in two: outside each side there is just the other. A shape of one group leaves the rule as
-- it is, however long its sum: `Grouped` (Claims.antt) is what rules that out.
abbrev pub divided_by : InputRule → (b : ℕ) → List Weighted → SumShape → Item
divided_by r b l (few k) = whole r
divided_by r b l (both s t) =
    divided r.kind r.heads b l (levelled b (pairs_in t ++ []) s) (levelled b (pairs_in s ++ []) t)

-- "at most 12 literals" (document 02, Change 3)
abbrev pub is_short : List Weighted → Bool
is_short l = leb (length l) most_weighted

module _ (shape : List Weighted → SumShape) where
  -- a plain body and a short sum stay as they are
  abbrev pub plan_body : InputRule → Body → Item
  plan_body r (plain ls) = whole r
  plan_body r (weights b l) = cond (is_short l) (whole r) (divided_by r b l (shape l))

  abbrev pub planned : List InputRule → List Item
  planned ws = map (λ r. plan_body r r.body) ws

  abbrev pub split_program : List InputRule → List InputRule
  split_program ws = split (planned ws)

-- groups one after another
abbrev pub chain : SumShape → List (List Weighted) → SumShape
chain s [] = s
chain s (g ∷ gs) = chain (both s (few g)) gs

abbrev pub chained : List (List Weighted) → SumShape
chained [] = few []
chained (g ∷ gs) = chain (few g) gs

-- groups of k + 1 literals, the last of what is left
unfoldable pub chunks : (fuel k : ℕ) → List Weighted → List (List Weighted)
chunks zero k l = []
chunks (suc f) k [] = []
chunks (suc f) k (x ∷ l) = (x ∷ take k l) ∷ chunks f k (drop k l)

abbrev pub in_groups : (k : ℕ) → List Weighted → SumShape
in_groups k l = chained (chunks (length l) k l)

-- x put into pairs that ascend by a key: before the first of a larger one
unfoldable pub insert_by : (Weighted → ℕ) → Weighted → List Weighted → List Weighted
insert_by key x [] = x ∷ []
insert_by key x (y ∷ l) = cond (ltb (key x) (key y)) (x ∷ y ∷ l) (y ∷ insert_by key x l)

-- the pairs of the second list put, one after another, into the first
unfoldable pub insert_all_by : (Weighted → ℕ) → List Weighted → List Weighted → List Weighted
insert_all_by key acc [] = acc
insert_all_by key acc (x ∷ l) = insert_all_by key (insert_by key x acc) l

-- the pairs in order by a key, those with the same key as they stood
abbrev pub sort_by : (Weighted → ℕ) → List Weighted → List Weighted
sort_by key l = insert_all_by key [] l

abbrev pub by_weight : Weighted → ℕ
by_weight x = x.weight

abbrev pub by_atom : Weighted → ℕ
by_atom x = variable x.literal

-- groups of k + 1 literals of like weight, the lightest first, and each group ascending by atom: like weights make few different sums
abbrev pub sorted_groups : (k : ℕ) → List Weighted → SumShape
sorted_groups k l = chained (map (sort_by by_atom) (chunks (length l) k (sort_by by_weight l)))
