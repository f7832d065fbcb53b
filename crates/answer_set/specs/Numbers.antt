-- The numbers of the questions that the set test can fail: document 01, 41 to 43.
-- Assumes nothing.
use Rattle.std.specs.Prelude.{ℕ}
use Rattle.answer_set.specs.declared.SetFault.{SetFault}
use Rattle.answer_set.specs.declared.SetFault.TheVariants.{Unreadable, NotAscending, WrongMarks}

abbrev pub number_of : SetFault → ℕ
number_of Unreadable = 41
number_of NotAscending = 42
number_of WrongMarks = 43
