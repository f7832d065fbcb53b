-- Nogoods' records one after another, as the loops read them: a record begins at r. Only private functions cite this file.
-- Assumes nothing.
use Rattle.std.specs.Prelude.{◌≡◌, Bool, List, ℕ, ◌+◌, ◌≤◌, ℤ, pos, nat_abs, length, take, drop, get_or}
use Rattle.std.specs.Int.Signed.{lt_z}
use Rattle.words.specs.Lists.{◌∈◌}
use Rattle.nogoods.specs.Store.{Stored, header_size, words_of}
use Rattle.nogoods.specs.Keeps.{Literals}

-- the words are those of what is stored
pub record Encodes (s : List ℤ) (stored : List Stored) : Type 0 where
  pub words : s ≡ words_of stored
  pub literals : (e : Stored) → e ∈ stored → Literals e.literals
  pub origins : (e : Stored) → e ∈ stored → 1 ≤ e.origin

-- the origin, which stands first
abbrev pub origin_at : List ℤ → ℕ → ℕ
origin_at s r = nat_abs (get_or s r (pos 0))

-- "its origin word is negated"
abbrev pub dead_at : List ℤ → ℕ → Bool
dead_at s r = lt_z (get_or s r (pos 0)) (pos 0)

-- the literal count, which stands next
abbrev pub count_at : List ℤ → ℕ → ℕ
count_at s r = nat_abs (get_or s (r + 1) (pos 0))

-- where the record ends
abbrev pub end_at : List ℤ → ℕ → ℕ
end_at s r = r + header_size + count_at s r

-- the literals after the header
abbrev pub nogood_at : List ℤ → ℕ → List ℤ
nogood_at s r = take (count_at s r) (drop (r + header_size) s)

-- what the record says
abbrev pub stored_at : List ℤ → ℕ → Stored
stored_at s r = record { origin = origin_at s r; dead = dead_at s r; literals = nogood_at s r }

-- a record can be read, and its literals are those of a nogood
pub record Readable (s : List ℤ) (r : ℕ) : Type 0 where
  pub room : end_at s r ≤ length s
  pub literals : Literals (nogood_at s r)

-- one of those stored stands at r
abbrev pub Stands : List ℤ → ℕ → Type 0
Stands s r = (stored : List Stored) → Encodes s stored → (stored_at s r ∈ stored) × (end_at s r ≤ length s)
