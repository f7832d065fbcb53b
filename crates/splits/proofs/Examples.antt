-- The worked cases by computation. Assumes nothing.
use mathlib.Core.Path.{refl, subst}
use Prim.Native.Nat.{ℕ}
use lib.IntN.{pos}
use lib.ListN.{replicate, length-replicate}
use Rattle.words.specs.Literals.{insert, insert_all}
use Rattle.text.specs.Decimals.{decimals, decimal, number_bytes, spaced}
use Rattle.text.specs.Line.{line_of}
use Rattle.aspif.specs.Rules.{bodies_of, expand_rule, expand}
use Rattle.aspif.specs.Reading.{shape_of, read_lines, read_text, lines_from}
use Rattle.drupe.specs.Texts.{step_text, text_of, steps_at, steps_within}
use Rattle.nogoods.specs.Store.{live}
use Rattle.runs.specs.Course.{course_within}
use Rattle.merging.specs.Merge.{merged}
use Rattle.merging.specs.Examples.{rules, program_a}
use Rattle.splits.specs.Service.{merge}
use Rattle.splits.specs.Claims.{Exactly}
use Rattle.splits.specs.Examples.{text_a, half_a, other_a, answer_a, Worked}
use Rattle.splits.proofs.Exactly.{merged-exactly}

-- what `merge_halves` may answer with such a store, by its contract
whole : (size : ℕ) → Exactly size 167 (rules program_a) 1 half_a other_a (merge 30 size 167 text_a 1 half_a other_a).output (answer_a 30 size 167 1)
unfolding read_text read_lines lines_from shape_of line_of insert_all insert
whole size =
    subst (λ (n : ℕ). Exactly n 167 (rules program_a) 1 half_a other_a (merge 30 n 167 text_a 1 half_a other_a).output (answer_a 30 n 167 1)) (length-replicate size (pos 0))
    (merged-exactly text_a 1 half_a other_a (replicate 30 (pos 0)) (replicate size (pos 0)) _ _ (replicate 167 0) _ _ refl (rules program_a) refl)

pub worked : Worked
unfolding merge merged course_within live text_of step_text spaced number_bytes decimal decimals steps_within steps_at read_text read_lines lines_from shape_of line_of insert insert_all expand expand_rule bodies_of
worked = record {
  good = refl;
  table = refl;
  output = refl;
  short-table = refl;
  short-store = refl;
  past = ((whole 123).full.0 refl).1;
  within = ((whole 124).merged.0 (167, refl)).1;
  half-store = refl;
  no_store = refl;
  short-output = refl;
  both-short = refl;
  no-atom = refl;
  foreign-atom = refl;
  other-atom = refl;
  exchanged = refl;
  open-half = refl;
  nothing = refl;
  numbers = refl;
}
