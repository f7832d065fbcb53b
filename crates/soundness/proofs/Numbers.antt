-- The number of a refused program is never 0: `numbered` of a fault, `within-numbered` and `read-numbered` of a text.
-- Codes for C tell a program that is read by 0.
-- Assumes nothing.
use mathlib.Core.List.{List}
use Prim.Native.Nat.{ℕ, ◌≤◌}
use native.Mathlib.Omega.{arith}
use Rattle.aspif.specs.Numbers.{number_of}
use Rattle.aspif.specs.Reading.{Reading, refused, program, read_text_within, read_text}
use Rattle.aspif.specs.declared.ProgramFault.{ProgramFault}
use Rattle.aspif.specs.declared.ProgramFault.TheVariants.{TooLong, NoHeader, Malformed, TooLarge, WrongKind, WrongCount, UnsuitedHeads, WrongLiterals, TooManyRules, TableFull, TextAfterEnd, WeightOutOfRange, TooManyWeights}

pub numbered : (k : ProgramFault) → 1 ≤ number_of k
numbered TooLong = omega arith
numbered NoHeader = omega arith
numbered Malformed = omega arith
numbered TooLarge = omega arith
numbered WrongKind = omega arith
numbered WrongCount = omega arith
numbered UnsuitedHeads = omega arith
numbered WrongLiterals = omega arith
numbered TooManyRules = omega arith
numbered TableFull = omega arith
numbered TextAfterEnd = omega arith
numbered WeightOutOfRange = omega arith
numbered TooManyWeights = omega arith

-- what is refused has a number from 1 on
abbrev pub Numbered : Reading → Type 0
Numbered (refused k line) = 1 ≤ number_of k
Numbered (program rs) = Unit {0}

reading-numbered : (x : Reading) → Numbered x
reading-numbered (refused k line) = numbered k
reading-numbered (program rs) = tt

-- whatever number of literals question 55 is put with
pub within-numbered : (most size : ℕ) (text : List ℕ) → Numbered (read_text_within most size text)
within-numbered most size text = reading-numbered (read_text_within most size text)

pub read-numbered : (size : ℕ) (text : List ℕ) → Numbered (read_text size text)
read-numbered size text = reading-numbered (read_text size text)
