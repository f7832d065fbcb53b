-- What the writers leave in a lent buffer. It serves the functions that write; the claims on what they write name the bytes alone.
-- Assumes nothing.
use Rattle.std.specs.Prelude.{◌≡◌, List, [], ◌∷◌, ℕ, ◌+◌, ℤ, pos, negsuc, length}
use Rattle.std.proofs.lemmas.List.Edits.{sets}

-- The bytes vs stand in a buffer from `at` on, as many as fit, and no other byte has changed; `next` is the position after them.
pub record Put (vs before after : List ℕ) (at next : ℕ) : Type 0 where
  pub stands : after ≡ sets before at vs
  pub ends : next ≡ at + length vs

-- the position up to which the writers go, far past the end of every text, so that no sum wraps
abbrev pub farthest : ℕ
farthest = 4294967296

-- the minus of a negative number
abbrev pub sign_bytes : ℤ → List ℕ
sign_bytes (pos m) = []
sign_bytes (negsuc m) = 45 ∷ []
