-- What the functions of src/searches.rt promise: the places that the first place leads to, one edge after another.
-- No reader of a public contract needs it.
-- Assumes nothing.
use Rattle.std.specs.Prelude.{◌≡◌, Bool, true, cond, not, ◌&&◌, ◌||◌, List, ℕ, ◌<◌, Option, Some, None, T, eqb, length}
use Rattle.words.specs.Limits.{most_numbers}
use Rattle.marks.specs.Marks.{marked}
use Rattle.loops.specs.Edges.{edge_at}

-- an edge, or one the other way
abbrev pub steps : List ℕ → Bool → ℕ → ℕ → Bool
steps e back a b = cond back (edge_at e b a) (edge_at e a b)

-- one more mark, where the test says so
pub record Noted (b : ℕ) (t : Bool) (before after : List ℕ) : Type 0 where
  pub long : length after ≡ most_numbers
  pub has : (c : ℕ) → c < most_numbers → marked after c ≡ (marked before c || (eqb c b && t))

-- the marks are those before, and below n those that f says
pub record Spread (f : ℕ → Bool) (n : ℕ) (before after : List ℕ) : Type 0 where
  pub long : length after ≡ most_numbers
  pub has : (b : ℕ) → b < n → marked after b ≡ (marked before b || f b)

-- the place is found and not done; or there is none, and all that is found is done
abbrev pub Open : List ℕ → List ℕ → ℕ → Option ℕ → Type 0
Open found done n (Some v) = (v < n) × ((marked found v && not (marked done v)) ≡ true)
Open found done n None = (b : ℕ) → b < n → marked found b ≡ true → marked done b ≡ true

-- a way from place 0, of one or more edges
pub data Way (f : ℕ → ℕ → Bool) (n : ℕ) : ℕ → Type 0 where
  first : {b : ℕ} → b < n → T (f 0 b) → Way f n b
  on : {a b : ℕ} → Way f n a → b < n → T (f a b) → Way f n b

-- the marks are those of the places that a way leads to
pub record Searched (f : ℕ → ℕ → Bool) (n : ℕ) (m : List ℕ) : Type 0 where
  pub to : (b : ℕ) → b < n → T (marked m b) → Way f n b
  pub from : (b : ℕ) → Way f n b → T (marked m b)

-- every place is marked
pub record Full (n : ℕ) (m : List ℕ) (r : Bool) : Type 0 where
  pub to : r ≡ true → (b : ℕ) → b < n → marked m b ≡ true
  pub from : ((b : ℕ) → b < n → marked m b ≡ true) → r ≡ true
