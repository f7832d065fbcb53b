-- The numbers of the questions of the splitting of long sums, beside those of the program: 65 and 66.
-- Assumes nothing.
use Rattle.std.specs.Prelude.{ℕ}
use Rattle.long_sums.specs.declared.SplitFault.{SplitFault}
use Rattle.long_sums.specs.declared.SplitFault.TheVariants.{WrongGroupSize, TooLarge}

abbrev pub number_of : SplitFault → ℕ
number_of WrongGroupSize = 65
number_of TooLarge = 66
