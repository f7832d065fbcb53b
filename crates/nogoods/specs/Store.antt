-- The store's words: document 01, 'Variables and nogoods'. "The lent store" is document 01's term for the words that the caller
-- lends for the nogoods.
-- Assumes nothing.
use Rattle.std.specs.Prelude.{Bool, true, false, cond, not, ◌&&◌, List, [], ◌∷◌, ◌++◌, map, ℕ, ◌+◌, ◌-◌, leb, ℤ, pos, neg_ℤ, length, replicate}
use Rattle.words.specs.Lists.{concat}
use Rattle.words.specs.Literals.{same_list}

-- What the store has of a nogood: "the number of the step that added it", whether a deletion marked it "dead", and its literals.
pub record Stored : Type 0 where
  pub origin : ℕ
  pub dead : Bool
  pub literals : List ℤ

-- a nogood that step n added
abbrev pub record_of : ℕ → List ℤ → Stored
record_of n g = record { origin = n; dead = false; literals = g }

-- the nogoods that step n added: all carry its number
abbrev pub added_in : ℕ → List (List ℤ) → List Stored
added_in n gs = map (record_of n) gs

-- those that are not dead, in their order
unfoldable pub closed : List Stored → List Stored
closed [] = []
closed (e ∷ stored) = cond e.dead (closed stored) (e ∷ closed stored)

-- the live nogoods: the literals of those that are not dead
unfoldable pub live : List Stored → List (List ℤ)
live [] = []
live (e ∷ stored) = cond e.dead (live stored) (e.literals ∷ live stored)

-- "A deletion now only marks its nogood dead"
abbrev pub dead_of : Stored → Stored
dead_of e = record { origin = e.origin; dead = true; literals = e.literals }

-- a live nogood whose literals are the list
abbrev pub is_target : List ℤ → Stored → Bool
is_target literals e = not e.dead && same_list e.literals literals

-- the oldest live one with these literals is dead
unfoldable pub killed : List ℤ → List Stored → List Stored
killed literals [] = []
killed literals (e ∷ stored) = cond (is_target literals e) (dead_of e ∷ stored) (e ∷ killed literals stored)

-- "its origin word is negated"
abbrev pub origin_word : Stored → ℤ
origin_word e = cond e.dead (neg_ℤ (pos e.origin)) (pos e.origin)

-- A nogood's record: a header, then its literals. The header is the origin, "as a word before its count", and the literal count.
abbrev pub record_header : Stored → List ℤ
record_header e = origin_word e ∷ pos (length e.literals) ∷ []

-- how many words a header has
abbrev pub header_size : ℕ
header_size = 2

-- "the literal count, then literals ascending by variable", after the origin
abbrev pub stored_words : Stored → List ℤ
stored_words e = record_header e ++ e.literals

-- how many words a nogood's record has
abbrev pub record_size : List ℤ → ℕ
record_size g = header_size + length g

-- "keeps live nogoods oldest first, in signed 32-bit words", and the dead where they stood
abbrev pub words_of : List Stored → List ℤ
words_of stored = concat (map stored_words stored)

-- a store of the length given: "All later words are 0."
abbrev pub store_words : ℕ → List Stored → List ℤ
store_words size stored = words_of stored ++ replicate (size - length (words_of stored)) (pos 0)

-- What is kept in a store of the size given before a step that adds so many words: all; or, where the step "would not fit
-- otherwise", those that are not dead.
abbrev pub kept_for : (size words : ℕ) → List Stored → List Stored
kept_for size words stored = cond (leb (length (words_of stored) + words) size) stored (closed stored)

-- with what the step adds
abbrev pub kept_with : (size : ℕ) → (new : List Stored) → List Stored → List Stored
kept_with size new stored = kept_for size (length (words_of new)) stored ++ new

-- how many words some live nogoods take: "Every stored nogood costs one word more, so question 34 counts it"
abbrev pub words_for : List (List ℤ) → ℕ
words_for [] = 0
words_for (g ∷ gs) = record_size g + words_for gs
