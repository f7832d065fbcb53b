-- The worked cases by computation. Assumes nothing.
use mathlib.Core.Path.{refl}
use Rattle.words.specs.Literals.{insert, insert_all}
use Rattle.text.specs.Line.{line_of}
use Rattle.weights.specs.Weights.{sublists, minimal_sets, bodies}
use Rattle.aspif.specs.Rules.{bodies_of, expand_rule, expand}
use Rattle.aspif.specs.Reading.{all_weights, ranged, shape_of, arranged, read_lines, read_text, lines_from}
use Rattle.answer_set.specs.SetTest.{give_head, give_rule, least, verdict_of}
use Rattle.drupe.specs.Texts.{steps_at, steps_within}
use Rattle.nogoods.specs.Store.{live, closed, killed}
use Rattle.runs.specs.Course.{course_within}
use Rattle.checker.specs.Check.{check_within}
use Rattle.cheapest.specs.Service.{cheapest}
use Rattle.cheapest.specs.Examples.{Worked}

pub worked : Worked
unfolding cheapest check_within course_within live closed killed steps_within steps_at read_text read_lines lines_from shape_of ranged all_weights arranged line_of insert insert_all expand expand_rule bodies_of bodies minimal_sets sublists verdict_of least give_rule give_head
worked = record {
  good = refl;
  other-order = refl;
  table = refl;
  store = refl;
  short-store = refl;
  no_store = refl;
  short-table = refl;
  dearer = refl;
  no-answer-set = refl;
  nothing = refl;
  nothing-store = refl;
  no-costs = refl;
  nothing-for-it = refl;
  outside = refl;
  odd = refl;
  odd-three = refl;
  no-literal = refl;
  foreign = refl;
  negative = refl;
  high = refl;
  twice = refl;
  foreign-atom = refl;
  descending = refl;
  too-dear = refl;
  just-dear = refl;
  too-dear-none = refl;
  refused = refl;
  numbers = refl;
}
