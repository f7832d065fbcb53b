-- A line that is read into two lent rows: its numbers as written, and ascending by variable. What is read is `line_at` of Lines.antt.
-- These are the contracts of the struct `ProofReader` and of `read_into` below it, which are no services: whoever reads the contract of
-- the service `read_line` (Lines.antt) needs none of it.
-- Assumes nothing.
use Rattle.std.specs.Prelude.{◌≡◌, List, [], ◌∷◌, ◌++◌, ℕ, ℤ, pos, length, take, Result, Option}
use Rattle.std.proofs.lemmas.List.Edits.{sets}
use Rattle.words.specs.Literals.{ascending}
use Rattle.drupe.specs.Lines.{LineAt, end, refused, line, line_at, line_answer, AnswerBounds, position_after}
use Rattle.drupe.specs.declared.ProofLine.{ProofLine}
use Rattle.drupe.specs.declared.ProofFault.{ProofFault}
use Rattle.drupe.specs.declared.reader.ProofReader.{ProofReader}

-- "the numbers as written without the closing 0" at the front of the one row, and "ascending by variable" at that of the other. What stands
-- behind the numbers in the second row is not said, and where no line is answered nothing is said of either row: the check, the walks of
-- renaming, the packet writer and `read_line` read the rows where a line is answered, and of the second its front alone.
abbrev pub InRows : LineAt → (numbers sorted : List ℤ) → Type 0
InRows end numbers sorted = Unit {0}
InRows (refused k) numbers sorted = Unit {0}
InRows (line x zs next) numbers sorted = (take (length zs) numbers ≡ zs) × (take (length zs) sorted ≡ ascending zs)

-- The first row where a line is answered, all of it: the line's numbers and its closing 0 are written from the front on, as far as they
-- fit, and nothing else is.
abbrev pub Written : LineAt → (before numbers : List ℤ) → Type 0
Written end before numbers = Unit {0}
Written (refused k) before numbers = Unit {0}
Written (line x zs next) before numbers = numbers ≡ sets before 0 (zs ++ (pos 0 ∷ []))

-- What `read_into` answers of the position `at` of the text s, and leaves in the rows
pub record ReadInto (s : List ℕ) (at : ℕ) (before numbers sorted : List ℤ) (r : Result (Option ProofLine) ProofFault) : Type 0 where
  pub answer : r ≡ line_answer (line_at s at)
  pub rows : InRows (line_at s at) numbers sorted
  pub row : Written (line_at s at) before numbers
  pub within : AnswerBounds at (length s) r

-- The same of what is read, for the functions of its parts
pub record LineInto (l : LineAt) (before numbers sorted : List ℤ) (r : Result (Option ProofLine) ProofFault) : Type 0 where
  pub answer : r ≡ line_answer l
  pub rows : InRows l numbers sorted
  pub row : Written l before numbers

-- What a reader at d hands out into the rows, and what it is afterwards: the line at its position, over the same text, and the position that follows
pub record HandsInto (d : ProofReader) (before numbers sorted : List ℤ) (r : Result (Option ProofLine) ProofFault) (d' : ProofReader) : Type 0 where
  pub line : ReadInto d.text.now d.at before numbers sorted r
  pub text : d'.text ≡ d.text
  pub at : d'.at ≡ position_after r d.at
