-- The numbers of an `l` line by their places in it, and the edges between the places: what `is_loop` asks, and what the
-- functions of src/edges.rt promise. No reader of a public contract needs it.
-- Assumes nothing.
use Rattle.std.specs.Prelude.{◌≡◌, Bool, true, false, cond, ◌&&◌, ◌||◌, List, [], ◌∷◌, ℕ, suc, ◌+◌, ◌*◌, ◌≤◌, ◌<◌, eqb, ℤ, pos, length, get_or, take}
use Rattle.std.specs.Int.Signed.{lt_z}
use Rattle.words.specs.Limits.{largest, most_numbers}
use Rattle.words.specs.Lists.{◌∈◌, any}
use Rattle.words.specs.Literals.{variable, distinct}
use Rattle.weights.specs.Weights.{Weighted}
use Rattle.aspif.specs.Rules.{InputRule, bodies_of}
use Rattle.marks.specs.Marks.{marked}

-- the numbers of an `l` line, as questions 23 to 25 leave them
pub record Members (U : List ℤ) : Type 0 where
  pub positive : (x : ℤ) → x ∈ U → lt_z (pos 0) x ≡ true
  pub high : (x : ℤ) → x ∈ U → variable x ≤ largest
  pub once : distinct U ≡ true
  pub few : length U ≤ most_numbers

-- Places: an entry for each variable

-- the place of a positive literal, counted from 1; 0 for none
abbrev pub place_by : List ℕ → ℤ → ℕ
place_by m x = cond (lt_z (pos 0) x) (get_or m (variable x) 0) 0

-- the places are those in the line
pub record Placed (m : List ℕ) (U : List ℤ) : Type 0 where
  pub to : (x : ℤ) (i : ℕ) → place_by m x ≡ suc i → (i < length U) × (get_or U i (pos 0) ≡ x)
  pub from : (i : ℕ) → i < length U → place_by m (get_or U i (pos 0)) ≡ suc i

-- no place is above the most numbers
abbrev pub Low : List ℕ → Type 0
Low m = (x : ℤ) → place_by m x ≤ most_numbers

-- of places, counted from 1: it is the place i, counted from 0; none is above the most numbers
abbrev pub is_place : ℕ → ℕ → Bool
is_place i p = eqb p (suc i)

abbrev pub LowPlaces : List ℕ → Type 0
LowPlaces l = (p : ℕ) → p ∈ l → p ≤ most_numbers

-- the literal has the place i, counted from 0
abbrev pub is_at : List ℕ → ℕ → ℤ → Bool
is_at m i x = is_place i (place_by m x)

-- one place more behind n others, unless it is 0; r are there then
pub record Puts (n place : ℕ) (before after : List ℕ) (r : ℕ) : Type 0 where
  pub long : length after ≡ length before
  pub most : r ≤ suc n
  pub low : LowPlaces (take n before) → LowPlaces (take r after)
  pub has : (i : ℕ) → any (is_place i) (take r after) ≡ (any (is_place i) (take n before) || is_place i place)

-- the first n places of the row are those of the literals
pub record Gathered (m : List ℕ) (l : List ℤ) (row : List ℕ) (n : ℕ) : Type 0 where
  pub most : n ≤ length l
  pub low : LowPlaces (take n row)
  pub has : (i : ℕ) → any (is_place i) (take n row) ≡ any (is_at m i) l

-- Edges: a mark for each two places

abbrev pub cells : ℕ
cells = most_numbers * most_numbers

-- an edge from place i to place j
abbrev pub edge_at : List ℕ → ℕ → ℕ → Bool
edge_at e i j = marked e (i * most_numbers + j)

-- the edges are those before, and those that f says
pub record More (f : ℕ → ℕ → Bool) (before after : List ℕ) : Type 0 where
  pub long : length after ≡ cells
  pub has : (i j : ℕ) → i < most_numbers → j < most_numbers → edge_at after i j ≡ (edge_at before i j || f i j)

-- some literal passes whose pair is marked; the entry of the first pair is the one at k
abbrev pub any_marked : (ℤ → Bool) → List ℕ → ℕ → List Weighted → Bool
any_marked f m k [] = false
any_marked f m k (x ∷ l) = (marked m k && f x.literal) || any_marked f m (suc k) l

-- what the plain rules of a rule as written say of two places: the first has a literal in some body, the second a head
abbrev pub rule_edge : List ℕ → ℕ → ℕ → InputRule → Bool
rule_edge m i j r = any (any (is_at m i)) (bodies_of r.body) && any (is_at m j) r.heads

-- the edges are those of the rules
pub record Edges (m : List ℕ) (ws : List InputRule) (e : List ℕ) : Type 0 where
  pub long : length e ≡ cells
  pub has : (i j : ℕ) → i < most_numbers → j < most_numbers → edge_at e i j ≡ any (rule_edge m i j) ws
