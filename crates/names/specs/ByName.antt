-- The bodies of at most 12 literals, by the name that a `b` step gave them: what private functions of the checker cite. A record for each
-- variable holds the body that it names; after the records stands an index that makes lookups quick and of which little is said.
-- Assumes nothing.
use Rattle.std.specs.Prelude.{Option, Some, None, ◌≡◌, Bool, false, cond, List, [], ◌∷◌, ℕ, suc, ◌+◌, ◌*◌, ◌/◌, ◌%◌, ◌≤◌, eqb, ℤ, pos, length, take, drop, get_or}
use Rattle.std.specs.Int.Signed.{lt_z}
use Rattle.words.specs.Limits.{largest, entries}
use Rattle.words.specs.Literals.{variable, same_list}
use Rattle.weights.specs.Weights.{most_weighted}

-- the words of a record: the count of literals and one more, 0 where there is no body, and the literals
abbrev pub width : ℕ
width = suc most_weighted

-- a record for each variable, and one for 0; then the index, which has as many words
abbrev pub body_words : ℕ
body_words = width * entries + entries

-- a key with one literal more; keys are below this number
abbrev pub keys : ℕ
keys = 4294967296

unfoldable pub mixed : ℕ → ℤ → ℕ
mixed k z = (k + variable z % entries + cond (lt_z z (pos 0)) entries 0) * 1640531527 % keys

unfoldable pub key_from : ℕ → List ℤ → ℕ
key_from k [] = k
key_from k (z ∷ zs) = key_from (mixed k z) zs

-- the place of the index from which on a body's name is looked for
unfoldable pub place_of : List ℤ → ℕ
place_of L = key_from 0 L / 524288

-- some name stands at a place of the index
abbrev pub Taken : List ℤ → ℕ → Type 0
Taken m k = ¬ (get_or m (width * entries + k) (pos 0) ≡ pos 0)

-- the record of v holds the body L
unfoldable pub stands_at : List ℤ → ℕ → List ℤ → Bool
stands_at m v L = same_list (take (suc (length L)) (drop (width * v) m)) (pos (suc (length L)) ∷ L)

-- the records are those of the bodies' names: `called` gives a body's name, 0 where it has none
pub record Called (m : List ℤ) (called : List ℤ → ℕ) : Type 0 where
  pub long : length m ≡ body_words
  pub high : (L : List ℤ) → called L ≤ largest
  pub stands : (v : ℕ) → 1 ≤ v → v ≤ largest → (L : List ℤ) → length L ≤ most_weighted → stands_at m v L ≡ eqb (called L) v
  pub taken : (L : List ℤ) → length L ≤ most_weighted → 1 ≤ called L → Taken m (place_of L)

-- a name that was put into the index from a place on: the records stay, that place is taken, and so is each that was
pub record PutName (first : ℕ) (before after : List ℤ) : Type 0 where
  pub records : take (width * entries) after ≡ take (width * entries) before
  pub here : Taken after first
  pub still : (k : ℕ) → Taken before k → Taken after k

-- what is told of a record by its first word: the count of literals, or that it holds no body of at most 12 literals
abbrev pub Counted : ℤ → Option ℕ → Type 0
Counted first (Some n) = (n ≤ most_weighted) × (first ≡ pos (suc n))
Counted first None = (n : ℕ) → n ≤ most_weighted → ¬ (first ≡ pos (suc n))

-- what is told of the body that is called `name`: it is the first n literals of the row, or there is none of at most 12 literals
abbrev pub Told : List ℤ → ℕ → List ℤ → Option ℕ → Type 0
Told m name row (Some n) =
    (n ≤ most_weighted)
    × ((called : List ℤ → ℕ) → Called m called → 1 ≤ name → (L : List ℤ) → length L ≤ most_weighted → eqb (called L) name ≡ same_list (take n row) L)
Told m name row None =
    (called : List ℤ → ℕ) → Called m called → 1 ≤ name → (L : List ℤ) → length L ≤ most_weighted → eqb (called L) name ≡ false
