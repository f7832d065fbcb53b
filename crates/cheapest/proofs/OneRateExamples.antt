-- The worked cases by computation. Assumes nothing.
use mathlib.Core.Path.{refl}
use native.Mathlib.Omega.{arith}
use Rattle.words.specs.Literals.{insert, insert_all}
use Rattle.text.specs.Line.{line_of}
use Rattle.weights.specs.Weights.{sublists, minimal_sets, bodies}
use Rattle.aspif.specs.Rules.{bodies_of, expand_rule, expand}
use Rattle.aspif.specs.Reading.{all_weights, shape_of, arranged, read_lines, read_text, lines_from}
use Rattle.answer_set.specs.SetTest.{give_head, give_rule, least, verdict_of}
use Rattle.drupe.specs.Texts.{steps_at, steps_within}
use Rattle.nogoods.specs.Store.{live, closed, killed}
use Rattle.runs.specs.Course.{course_within}
use Rattle.costs.specs.OneRate.{here, later}
use Rattle.cheapest.specs.Service.{cheapest}
use Rattle.cheapest.specs.OneRateExamples.{WorkedOneRate}

pub worked-one-rate : WorkedOneRate
unfolding cheapest course_within live closed killed steps_within steps_at read_text read_lines lines_from shape_of all_weights arranged line_of insert insert_all expand expand_rule bodies_of bodies minimal_sets sublists verdict_of least give_rule give_head
worked-one-rate = record {
  stays = record { differ = later _ (here _ 5 4 1 _ (omega arith) (omega arith)); one = refl; other = refl };
  another-set = record { differ = here _ 3 7 4 _ (omega arith) (omega arith); one = refl; other = refl };
  reached = record { differ = here _ 3 0 3 _ (omega arith) (omega arith); one = refl; other = refl };
  equals = record { differ = here _ 3 4 1 _ (omega arith) (omega arith); one = refl; other = refl };
}
