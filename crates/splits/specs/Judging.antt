-- What the functions below `merge_halves` leave, of a program that was read. No reader of a public contract needs it.
-- Assumes nothing.
use Rattle.std.specs.Prelude.{List, ℕ}
use Rattle.aspif.specs.Rules.{InputRule, expand, atoms}
use Rattle.runs.specs.Course.{course}
use Rattle.splits.specs.Service.{MergeLeft, judged_text}

-- 59, of a merged text that keeps to its limits
abbrev pub judged_as : (table_size store_size output_size : ℕ) → List InputRule → (text : List ℕ) → MergeLeft
judged_as t s o ws text = judged_text t s o ws text (course (atoms ws) (expand ws) s text)
