-- Which literals of the rules' weight bodies stand in some plain body, by rule and pair: what private functions cite.
-- Assumes nothing.
use Rattle.std.specs.Prelude.{◌≡◌, Bool, true, cond, not, ◌&&◌, List, [], ◌∷◌, map, ℕ, ◌-◌, ◌<◌, leb, ltb, ℤ, length, take, drop}
use Rattle.words.specs.Lists.{◌∈◌, any, filter}
use Rattle.words.specs.Literals.{same, has, rising}
use Rattle.weights.specs.Weights.{Weighted, sum, literals, sublists, bodies, most_weighted}
use Rattle.aspif.specs.Rules.{Body, plain, weights, InputRule}

-- the literal stands in some plain body of the weight body
abbrev pub is_relevant : ℕ → List Weighted → ℤ → Bool
is_relevant b l x = any (has x) (bodies b l)

-- of a weight body: 1 at each pair whose literal stands in some of its plain bodies, 0 at the others; nothing is said of a plain
-- body
abbrev pub RelevantPairs : List ℕ → Body → Type 0
RelevantPairs m (plain ls) = Unit {0}
RelevantPairs m (weights b l) = take (length l) m ≡ map (λ x. cond (is_relevant b l x.literal) 1 0) l

-- nothing is said of a rule without heads
abbrev pub RelevantRule : List ℕ → InputRule → Type 0
RelevantRule m r = 0 < length r.heads → RelevantPairs m r.body

-- an entry for each of twelve pairs, rule after rule
unfoldable pub Relevant : List ℕ → List InputRule → Type 0
Relevant m [] = Unit {0}
Relevant m (r ∷ ws) = RelevantRule m r × Relevant (drop most_weighted m) ws

-- How it is found, by sums alone

-- some of the pairs add up to `low` or more and to less than `high`
unfoldable pub has_sum : ℕ → ℕ → List Weighted → Bool
has_sum low high l = any (λ s. leb low (sum s) && ltb (sum s) high) (sublists l)

-- the pairs but for that of one literal
abbrev pub others : ℤ → List Weighted → List Weighted
others z l = filter (λ y. not (same z y.literal)) l

-- a literal stands in some plain body exactly where some of the others reach the bound with it and not without it
abbrev pub RelevantBySums : Type 0
RelevantBySums =
    (b : ℕ) (l : List Weighted) (x : Weighted) → rising (literals l) ≡ true → x ∈ l
    → is_relevant b l x.literal ≡ has_sum (b - x.weight) b (others x.literal l)
