-- The numbers of the questions that a proof can fail: document 01, 21 to 34, and 56 of Change 5.
-- Assumes nothing.
use Rattle.std.specs.Prelude.{ℕ}
use Rattle.drupe.specs.declared.ProofFault.{ProofFault}
use Rattle.drupe.specs.declared.ProofFault.TheVariants.{TooLong, Malformed, OutOfRange, WrongSigns, RepeatedVariable, UnknownVariable, KnownName, NoUnnamedBody, NoCompletion, NoSupport, NoAtoms, UnnamedBody, NoConflict, StoreFull, NoLoop}

abbrev pub number_of : ProofFault → ℕ
number_of TooLong = 21
number_of Malformed = 22
number_of OutOfRange = 23
number_of WrongSigns = 24
number_of RepeatedVariable = 25
number_of UnknownVariable = 26
number_of KnownName = 27
number_of NoUnnamedBody = 28
number_of NoCompletion = 29
number_of NoSupport = 30
number_of NoAtoms = 31
number_of UnnamedBody = 32
number_of NoConflict = 33
number_of StoreFull = 34
number_of NoLoop = 56
