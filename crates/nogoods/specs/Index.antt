-- The index that goes with a store for the length of a check: chains by the literals and marks of the records' starts, for the records in front, as
-- far as they were entered. The later cells belong to the search for a conflict, and nothing is said of them. Zeros are an index of any store.
-- No reader of a public contract needs it.
-- Assumes nothing.
use Rattle.std.specs.Prelude.{◌≡◌, ◌⊎◌, true, false, cond, Option, Some, None, List, [], ◌∷◌, ◌++◌, ℕ, suc, ◌+◌, ◌*◌, ◌-◌, ◌/◌, ◌%◌, ◌≤◌, ◌<◌, min, ℤ, pos, length, get_or, set}
use Rattle.std.specs.Int.Signed.{lt_z}
use Rattle.words.specs.Literals.{variable}
use Rattle.words.specs.Descending.{Descends, Leads}
use Rattle.nogoods.specs.Store.{Stored, live, is_target, record_size, words_of, words_for}
use Rattle.nogoods.specs.Keeps.{Holds}
use Rattle.nogoods.specs.Records.{Stands}
use Rattle.nogoods.specs.declared.chains.Spot.{Spot}

-- An index of n cells has a scale m: m chains, and 8 m words of the store that they reach, of a cell each; then the cell that says how many words were
-- entered; then the search's, 49,286 and two for each word that is reached. With fewer cells than that for m = 1 the scale is 0, and nothing is reached.
-- There is a largest scale, so that places and what is added to them are numbers of 32 bits.
abbrev pub fixed_cells : ℕ
fixed_cells = 49287

abbrev pub cells_per_chain : ℕ
cells_per_chain = 25

abbrev pub most_scale : ℕ
most_scale = 134217728

unfoldable pub scale_of : ℕ → ℕ
scale_of n = min ((n - fixed_cells) / cells_per_chain) most_scale

abbrev pub reach : ℕ → ℕ
reach m = 8 * m

-- the cells that a check of document 01's lends: they reach 16,384 words
abbrev pub lent_cells : ℕ
lent_cells = 100487

-- the cell that says how many words were entered; the cells before the search's; where the search's begin among n cells
abbrev pub covered_at : ℕ → ℕ
covered_at m = 9 * m

abbrev pub proved_cells : ℕ → ℕ
proved_cells m = 9 * m + 1

unfoldable pub start_of : ℕ → ℕ
start_of n = min (proved_cells (scale_of n)) n

-- an index that has the cells before the search's, at a scale that is not too large
abbrev pub Roomy : ℕ → List ℕ → Type 0
Roomy m index = (proved_cells m ≤ length index) × (m ≤ most_scale)

-- the hash of a list of literals, and its key among m
abbrev pub hashes : ℕ
hashes = 4294967296

unfoldable pub mixed : ℕ → ℤ → ℕ
mixed h z = (h * 1664525 + 2 * variable z + cond (lt_z z (pos 0)) 1 0) % hashes

unfoldable pub hash_from : ℕ → List ℤ → ℕ
hash_from h [] = h
hash_from h (z ∷ l) = hash_from (mixed h z) l

unfoldable pub key_of : ℕ → List ℤ → ℕ
key_of m l = hash_from 0 l % m

-- a chain's first entry, which is 0 or one more than a place
abbrev pub bucket_of : List ℕ → ℕ → ℕ
bucket_of index k = get_or index k 0

-- the entry after a place; the cell is one more, so that it is not 0 where a record starts
abbrev pub before_of : ℕ → List ℕ → ℕ → ℕ
before_of m index x = get_or index (m + x) 0 - 1

-- e stands at x, where the words begin at i
abbrev pub Placed : ℕ → List Stored → ℕ → Stored → Type 0
Placed i [] x e = ⊥
Placed i (f ∷ stored) x e = ((i ≡ x) × (f ≡ e)) ⊎ Placed (i + record_size f.literals) stored x e

-- a nogood with a key starts at x; a live one does
abbrev pub Start : ℕ → List Stored → ℕ → ℕ → Type 0
Start m stored x k = (e : Stored) × Placed 0 stored x e × (key_of m e.literals ≡ k)

abbrev pub Member : ℕ → List Stored → ℕ → ℕ → Type 0
Member m stored x k = (e : Stored) × Placed 0 stored x e × (key_of m e.literals ≡ k) × (e.dead ≡ false)

-- the records in the first r words were entered: each mark is at the start of one, and the chains lead to all that are live
pub record Covers (m : ℕ) (index : List ℕ) (r : ℕ) (stored : List Stored) : Type 0 where
  pub front : List Stored
  pub back : List Stored
  pub parts : stored ≡ front ++ back
  pub extent : r ≡ length (words_of front)
  pub near : r ≤ reach m
  pub marks : (x : ℕ) → x < reach m → 0 < get_or index (m + x) 0 → (e : Stored) × Placed 0 front x e
  pub chains : Descends m (reach m) (Member m front) (Start m front) (bucket_of index) (before_of m index)

-- What the store and the index hold together; the scale goes by the number of cells, whatever that is
pub record Keeps (store : List ℤ) (index : List ℕ) (used : ℕ) (stored : List Stored) : Type 0 where
  pub holds : Holds store used stored
  pub scale : ℕ
  pub size : scale ≡ scale_of (length index)
  pub covers : Covers scale index (get_or index (covered_at scale) 0) stored

-- "Do the live words after the step fit the store?", with these stored then: the store holds them, or is too short
abbrev pub Fits : List Stored → List ℤ → List ℕ → Option ℕ → Type 0
Fits stored store index (Some n) = Keeps store index n stored
Fits stored store index None = length store < words_for (live stored)

-- What the private functions say

-- the chain's entry that leads to a place, or its end
abbrev pub entry_of : Option ℕ → ℕ
entry_of None = 0
entry_of (Some x) = suc x

-- the place x on top of the chain of h
abbrev pub linked_in : ℕ → List ℕ → ℕ → ℕ → List ℕ
linked_in m index x h = set (set index (m + x) (suc (get_or index h 0))) h (suc x)

-- the record at x, with key h, is entered, and with it all words before `end`
abbrev pub Entered : ℕ → List ℕ → List ℕ → ℕ → ℕ → ℕ → Type 0
Entered m index index' x h end = (j : ℕ) → j < proved_cells m → get_or index' j 0 ≡ get_or (set (linked_in m index x h) (covered_at m) end) j 0

-- the place x is out of the chain of h: what led to it, the chain's start or the place before `over`, leads past it
pub record Unlinked (m : ℕ) (index index' : List ℕ) (h x over : ℕ) : Type 0 where
  pub at_start : over ≡ 0 → index' ≡ set index h (before_of m index x)
  pub at_place : (y : ℕ) → over ≡ suc y → index' ≡ set index (m + y) (get_or index (m + x) 0)

-- all cells before the search's are 0
abbrev pub Blank : ℕ → List ℕ → Type 0
Blank m index = (j : ℕ) → j < proved_cells m → get_or index j 0 ≡ 0

abbrev pub BlankIndex : List ℕ → Type 0
BlankIndex index = Blank (scale_of (length index)) index

-- a live nogood with the literals starts at x
abbrev pub Target : List Stored → List ℤ → ℕ → Type 0
Target stored L x = (e : Stored) × Placed 0 stored x e × (is_target L e ≡ true)

-- what a walk along the chain of the literals says: the oldest, and what led to it; or that there is none
abbrev pub Spotted : ℕ → List Stored → List ℤ → List ℕ → Option Spot → Type 0
Spotted m front L index (Some s) =
    Target front L s.place × ((y : ℕ) → Target front L y → s.place ≤ y)
    × Leads (Start m front) (bucket_of index) (before_of m index) (key_of m L) (entry_of s.over) s.place
Spotted m front L index None = (y : ℕ) → ¬ Target front L y

-- each mark is at the start of a record
abbrev pub Marked : ℕ → List ℤ → List ℕ → Type 0
Marked m nogoods index = (x : ℕ) → x < reach m → 0 < get_or index (m + x) 0 → Stands nogoods x
