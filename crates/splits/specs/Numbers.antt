-- The numbers of the questions that a merge can fail besides its program's own: document 02, 57 to 59 of Change 9, and
-- 64 of Change 14.
-- Assumes nothing.
use Rattle.std.specs.Prelude.{ℕ}
use Rattle.splits.specs.declared.MergeFault.{MergeFault}
use Rattle.splits.specs.declared.MergeFault.TheVariants.{NotAccepted, NotWritable, StoreFull, NoTree}

abbrev pub number_of : MergeFault → ℕ
number_of NotAccepted = 57
number_of NotWritable = 58
number_of StoreFull = 59
number_of NoTree = 64
