-- Proofs trimmed line by line, by computation. Assumes nothing.
use mathlib.Core.Path.{refl}
use Rattle.words.specs.Literals.{insert, insert_all}
use Rattle.text.specs.Decimals.{decimals, decimal, number_bytes, spaced}
use Rattle.text.specs.Line.{line_of}
use Rattle.weights.specs.Weights.{sublists, minimal_sets, bodies}
use Rattle.aspif.specs.Rules.{bodies_of, expand_rule, expand}
use Rattle.aspif.specs.Reading.{all_weights, ranged, shape_of, arranged, read_lines, read_text, lines_from}
use Rattle.drupe.specs.Texts.{step_text, text_of, steps_at, steps_within}
use Rattle.derivation.specs.Loops.{is_loop}
use Rattle.trimming.specs.Trims.{pass, passes}
use Rattle.trimming.specs.Examples.{TrimmedExamples}

pub trimmed-examples : TrimmedExamples
unfolding pass passes text_of step_text spaced number_bytes decimal decimals steps_within steps_at read_text read_lines lines_from shape_of ranged all_weights arranged line_of insert insert_all is_loop expand expand_rule bodies_of bodies minimal_sets sublists
trimmed-examples = record { onward = refl; three = refl; room = refl }
