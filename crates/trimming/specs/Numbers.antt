-- The number of the question of trimming, beside those of the program: 60.
-- Assumes nothing.
use Rattle.std.specs.Prelude.{ℕ}
use Rattle.trimming.specs.declared.TrimFault.{TrimFault}
use Rattle.trimming.specs.declared.TrimFault.TheVariants.{NotAccepted}

abbrev pub number_of : TrimFault → ℕ
number_of NotAccepted = 60
