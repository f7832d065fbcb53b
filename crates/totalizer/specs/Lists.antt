-- What the private functions say of lists of sums. No reader of the public contract needs it.
-- Assumes nothing.
use Rattle.std.specs.Prelude.{List, [], ◌∷◌, ℕ, suc, ◌≤◌, ltb, cond}
use Rattle.words.specs.Lists.{◌∈◌}
use Rattle.weights.specs.Weights.{Weighted}
use Rattle.sums.specs.Levels.{Ascending, further}

-- sums that ascend, none above the bound
pub record SumsUpTo (b : ℕ) (us : List ℕ) : Type 0 where
  pub ascend : Ascending 0 us
  pub low : (u : ℕ) → u ∈ us → u ≤ b

-- the first of a list, `past` where there is none
abbrev pub head_or : (past : ℕ) → List ℕ → ℕ
head_or past [] = past
head_or past (u ∷ us) = u

-- the sums with each of the pairs more
unfoldable pub sums_over : (b : ℕ) → List ℕ → List Weighted → List ℕ
sums_over b us [] = us
sums_over b us (x ∷ l) = further b x.weight (sums_over b us l)

-- how many numbers stand before the first that is at least `need`
unfoldable pub below : (need : ℕ) → List ℕ → ℕ
below need [] = 0
below need (u ∷ us) = cond (ltb u need) (suc (below need us)) 0
