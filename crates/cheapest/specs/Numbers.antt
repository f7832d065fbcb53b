-- The numbers of the questions of the cheapest answer set, beside those of the program: 42, 62 and 63.
-- Assumes nothing.
use Rattle.std.specs.Prelude.{ℕ}
use Rattle.cheapest.specs.declared.CheapestFault.{CheapestFault}
use Rattle.cheapest.specs.declared.CheapestFault.TheVariants.{WrongSet, WrongCosts, NotCertified}

abbrev pub number_of : CheapestFault → ℕ
number_of WrongSet = 42
number_of WrongCosts = 62
number_of NotCertified = 63
