-- The numbers of the questions that a program text can fail: document 01, 1 to 11, and 54 and 55 of Change 3.
-- Assumes nothing.
use Rattle.std.specs.Prelude.{ℕ}
use Rattle.aspif.specs.declared.ProgramFault.{ProgramFault}
use Rattle.aspif.specs.declared.ProgramFault.TheVariants.{TooLong, NoHeader, Malformed, TooLarge, WrongKind, WrongCount, UnsuitedHeads, WrongLiterals, TooManyRules, TableFull, TextAfterEnd, WeightOutOfRange, TooManyWeights}

abbrev pub number_of : ProgramFault → ℕ
number_of TooLong = 1
number_of NoHeader = 2
number_of Malformed = 3
number_of TooLarge = 4
number_of WrongKind = 5
number_of WrongCount = 6
number_of UnsuitedHeads = 7
number_of WrongLiterals = 8
number_of TooManyRules = 9
number_of TableFull = 10
number_of TextAfterEnd = 11
number_of WeightOutOfRange = 54
number_of TooManyWeights = 55
