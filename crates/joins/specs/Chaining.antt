-- What the private functions say of a chain of groups: the words of its pairs, and the plan of the whole sum. No reader
-- of the public contract needs it.
-- Assumes nothing.
use Rattle.std.specs.Prelude.{◌≡◌, List, [], ◌++◌, map, ℕ, ◌+◌, ◌*◌, ◌-◌, ◌≤◌, ℤ, length, take, drop}
use Rattle.weights.specs.Weights.{Weighted, paired}
use Rattle.aspif.specs.Rules.{InputRule}
use Rattle.sums.specs.Plans.{Plan, group, size, numbered, group_rule, root, node_rules}
use Rattle.sums.specs.Levels.{SumShape, few, both, pairs_in, levels_for, levelled, in_groups}
use Rattle.totalizer.specs.Emitting.{Emits}
use Rattle.joins.specs.Joining.{node_joins}
use Rattle.words.specs.Limits.{most_rules}
use Rattle.totalizer.specs.declared.texts.Place.{Place}
use Rattle.joins.specs.declared.chains.Node.{Node}
use Rattle.joins.specs.declared.chains.Numbered.{Numbered}

-- the pairs before one, from one up to another, and from one on, of the words of all
abbrev pub pairs_to : (n : ℕ) → List ℤ → List Weighted
pairs_to n ws = paired (take (2 * n) ws)

abbrev pub pairs_from : (n : ℕ) → List ℤ → List Weighted
pairs_from n ws = paired (drop (2 * n) ws)

abbrev pub pairs_within : (n m : ℕ) → List ℤ → List Weighted
pairs_within n m ws = paired (take (2 * m - 2 * n) (drop (2 * n) ws))

-- the levels of the pairs from one up to another, and of those before one
abbrev pub group_levels : (b n m : ℕ) → List ℤ → List ℕ
group_levels b n m ws = levels_for b (pairs_to n ws ++ pairs_from m ws) (pairs_within n m ws)

abbrev pub prefix_levels : (b n : ℕ) → List ℤ → List ℕ
prefix_levels b n ws = levels_for b (pairs_from n ws) (pairs_to n ws)

-- the rules of the first group
abbrev pub first_rules : (g b : ℕ) → List ℤ → (n : ℕ) → List InputRule
first_rules g b ws n = map group_rule (numbered n (pairs_within 0 g ws) (group_levels b 0 g ws))

-- the rules of a group and of the node that joins it to what stands before it, which has the levels ts
unfoldable pub turn_rules : (first : ℕ) → (us : List ℕ) → (second : ℕ) → (l : List Weighted) → (vs ts : List ℕ) → List InputRule
turn_rules first us second l vs ts = map group_rule (numbered second l vs) ++ node_joins (second + length vs) ts first us second vs

-- the first atom after those of a node
abbrev pub after : Node → ℕ
after p = p.first + p.count

-- the plan of a whole sum: the last node has the bound alone as its level
abbrev pub sum_plan : (b : ℕ) → SumShape → Plan
sum_plan b (few l) = group [] l
sum_plan b (both s t) = root b (levelled b (pairs_in t ++ []) s) (levelled b (pairs_in s ++ []) t)

-- that of the sum of pairs that stand in the order of their groups
unfoldable pub long_plan : (g b : ℕ) → List Weighted → Plan
long_plan g b l = sum_plan b (in_groups (g - 1) l)

-- the rules of the sum of these words are written, and where there are not too many its atoms are numbered from n on
pub record Written (g b : ℕ) (ws : List ℤ) (n : ℕ) (before after : List ℕ) (p : Place) (r : Numbered) : Type 0 where
  pub rules : Emits (node_rules n (long_plan g b (paired ws))) before after p r.place
  pub atoms : r.place.rules ≤ most_rules → r.atom ≡ n + size (long_plan g b (paired ws))
  pub low : r.atom ≤ n + 1000000
