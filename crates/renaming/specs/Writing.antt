-- What the functions that write lines leave. No reader of the contract of a public service needs it.
-- Assumes nothing.
use Rattle.std.specs.Prelude.{◌≡◌, false, true, ◌&&◌, List, ℕ, ◌+◌, ◌≤◌, Option, Some, None, leb, length}
use Rattle.words.specs.Limits.{longest}
use Rattle.text.specs.Writing.{Put}
use Rattle.drupe.specs.Texts.{Step, text_of}
use Rattle.merging.specs.Merge.{all_fit}

-- the lines of the steps stand in the output from a position on, and keep to their limits; or they do not
abbrev pub Writes : List Step → (before after : List ℕ) → (at : ℕ) → Option ℕ → Type 0
Writes ts before after at (Some end) = Put (text_of ts) before after at end × (all_fit ts ≡ true) × (end ≤ longest)
Writes ts before after at None = (all_fit ts && leb (at + length (text_of ts)) longest) ≡ false
