-- The starred examples of document 01: verdicts, words and the set test's answers by computation. Assumes nothing.
use mathlib.Core.Path.{◌≡◌, refl, sym, ◌∙◌}
use mathlib.Core.List.{List, [], ◌∷◌}
use Prim.Native.Nat.{ℕ}
use lib.IntN.{pos, negsuc}
use lib.ListN.{length}
use Rattle.std.specs.Prelude.{Result, Ok}
use Rattle.words.specs.Limits.{entries}
use Rattle.words.specs.Literals.{insert, insert_all}
use Rattle.text.specs.Decimals.{decimals, decimal}
use Rattle.text.specs.Line.{line_of}
use Rattle.weights.specs.Weights.{sublists, minimal_sets, bodies}
use Rattle.aspif.specs.Rules.{plain, weights, InputRule, bodies_of, expand_rule, expand, program_words}
use Rattle.aspif.specs.Reading.{all_weights, ranged, shape_of, arranged, program, read_lines, read_text, lines_from}
use Rattle.aspif.specs.Tables.{size_at, heads_at, body_words_at, bound_at, body_at, shape_sound, weights_sound, body_sound, sound_at, sound_table}
use Rattle.aspif.specs.declared.Kind.TheVariants.{Normal, Choice}
use Rattle.marks.specs.Marks.{listed}
use Rattle.answer_set.specs.SetTest.{give_head, give_rule, least, SetVerdict, yes, breaks, verdict_of, asked, set_answer}
use Rattle.answer_set.specs.Claims.{Ready}
use Rattle.answer_set.specs.declared.SetAnswer.{SetAnswer}
use Rattle.answer_set.specs.declared.SetAnswer.TheVariants.{Yes}
use Rattle.answer_set.specs.declared.SetFault.{SetFault}
use Rattle.answer_set.proofs.Answered.{no-differs, no-breaks, yes-answer-set}
use Rattle.answer_set.proofs.Broken.{breaks-lowest}
use Rattle.drupe.specs.Texts.{steps_at, steps_within}
use Rattle.derivation.specs.Loops.{is_loop}
use Rattle.nogoods.specs.Store.{live, closed, killed}
use Rattle.checker.specs.Report.{lent, printed}
use Rattle.runs.specs.Course.{course_within}
use Rattle.checker.specs.Check.{check_within}
use Rattle.starred.specs.Examples.{SetPasses, SetFails, Starred, Source000, WeightBodies, BrokenSecond, LoopsOnly, OriginWords, DeadWords, LongLines, Numbers}

-- Which sets pass: the programs as they are read

abbrev rules6 : List InputRule
rules6 = record { kind = Normal; heads = pos 1 ∷ []; body = plain (pos 2 ∷ []) } ∷ record { kind = Normal; heads = pos 2 ∷ []; body = plain (pos 1 ∷ []) } ∷ []

abbrev rules7 : List InputRule
rules7 = record { kind = Choice; heads = pos 1 ∷ []; body = plain [] } ∷ []

abbrev rules8 : List InputRule
rules8 = record { kind = Normal; heads = pos 1 ∷ []; body = plain (negsuc 0 ∷ []) } ∷ record { kind = Normal; heads = pos 1 ∷ []; body = plain [] } ∷ []

-- by what the set test computes: `yes-answer-set` says what its yes means
passes : (text l : List ℕ) (P : List InputRule) → read_text lent text ≡ program P → Ready (program_words P) (length P) l P → verdict_of (listed l) P ≡ yes
    → set_answer l (asked (program_words P) (length P) l entries) ≡ Ok Yes → SetPasses text l
passes text l P e ready v a = record { P = P; read = e; answer = a; answer_set = (yes-answer-set (program_words P) (length P) l P ready).0 v }

-- the set test's own verdict is not yes
fails : (text l : List ℕ) (P : List InputRule) (r : Result SetAnswer SetFault) → read_text lent text ≡ program P → Ready (program_words P) (length P) l P
    → {v : SetVerdict} → verdict_of (listed l) P ≡ v → ¬ (v ≡ yes) → set_answer l (asked (program_words P) (length P) l entries) ≡ r → SetFails text l r
fails text l P r e ready d f a =
    record { P = P; read = e; answer = a; none = λ s. f (sym d ∙ (yes-answer-set (program_words P) (length P) l P ready).1 s) }

pub starred : Starred
unfolding check_within course_within live closed killed steps_within steps_at read_text read_lines lines_from shape_of line_of insert insert_all is_loop printed decimal decimals asked sound_table sound_at body_sound shape_sound size_at heads_at body_words_at body_at expand expand_rule bodies_of verdict_of least give_rule give_head
starred = record {
  one_prints = refl;
  one = refl;
  one_fits = refl;
  one_short = refl;
  two = refl;
  two_prints = refl;
  three = refl;
  three_prints = refl;
  four = refl;
  four_empty = passes _ [] [] refl (record { readable = refl; ascending = refl }) refl refl;
  four_adds = refl;
  five = refl;
  five_without = refl;
  six_empty = passes _ [] rules6 refl (record { readable = refl; ascending = refl }) refl refl;
  six_one_two = fails _ (1 ∷ 2 ∷ []) rules6 _ refl (record { readable = refl; ascending = refl }) refl no-differs refl;
  seven_empty = passes _ [] rules7 refl (record { readable = refl; ascending = refl }) refl refl;
  seven_one = passes _ (1 ∷ []) rules7 refl (record { readable = refl; ascending = refl }) refl refl;
  seven = refl;
  eight_one = passes _ (1 ∷ []) rules8 refl (record { readable = refl; ascending = refl }) refl refl;
  minus_zero = refl;
  minus_zero_prints = refl;
  largest_atom = refl;
  too_large = refl;
  left_out = refl;
}

pub source000 : Source000
unfolding check_within course_within live closed killed steps_within steps_at read_text read_lines lines_from shape_of line_of insert insert_all is_loop expand expand_rule bodies_of
source000 = refl

pub weight-bodies : WeightBodies
unfolding check_within course_within live closed killed steps_within steps_at read_text read_lines lines_from shape_of ranged all_weights arranged line_of insert insert_all expand expand_rule bodies_of bodies minimal_sets sublists
weight-bodies = record { refuted = refl; whole_set = refl; weight_range = refl; too_many = refl }

abbrev broken_read : List InputRule
broken_read =
    record { kind = Normal; heads = []; body = weights 4 (record { literal = pos 1; weight = 3 } ∷ record { literal = pos 2; weight = 2 } ∷ record { literal = pos 3; weight = 2 } ∷ []) }
    ∷ record { kind = Normal; heads = []; body = plain (pos 1 ∷ negsuc 1 ∷ []) }
    ∷ record { kind = Choice; heads = pos 1 ∷ pos 2 ∷ pos 3 ∷ []; body = plain [] }
    ∷ record { kind = Normal; heads = []; body = plain (pos 1 ∷ []) } ∷ []

broken-ready : Ready (program_words broken_read) 4 (1 ∷ []) broken_read
unfolding sound_table sound_at body_sound weights_sound shape_sound size_at heads_at body_words_at bound_at body_at all_weights
broken-ready = record { readable = refl; ascending = refl }

broken-verdict : verdict_of (listed (1 ∷ [])) broken_read ≡ breaks 2
unfolding verdict_of least give_rule give_head
broken-verdict = refl

pub broken-second : BrokenSecond
unfolding read_text read_lines lines_from shape_of ranged all_weights arranged line_of insert insert_all asked sound_table sound_at body_sound weights_sound shape_sound size_at heads_at body_words_at bound_at body_at verdict_of least give_rule give_head fails
broken-second = record {
  answered = fails _ (1 ∷ []) broken_read _ refl broken-ready broken-verdict no-breaks refl;
  lowest = (breaks-lowest (program_words broken_read) 4 (1 ∷ []) broken_read broken-ready 2 broken-verdict).1;
}

pub loops-only : LoopsOnly
unfolding check_within course_within live closed killed steps_within steps_at read_text read_lines lines_from shape_of ranged all_weights arranged line_of insert insert_all is_loop expand expand_rule bodies_of bodies minimal_sets sublists
loops-only = record { six_no_loop = refl; weight_loop = refl; weight_no_loop = refl }

pub origin-words : OriginWords
unfolding check_within course_within live closed killed steps_within steps_at read_text read_lines lines_from shape_of line_of insert insert_all expand expand_rule bodies_of
origin-words = record {
  deleted = (refl, refl);
  counted = (refl, refl);
  oldest = (refl, refl);
  idle = (refl, refl);
  again = (refl, refl);
  again_short = (refl, refl);
  together = (refl, refl);
  together_short = (refl, refl);
}

pub dead-words : DeadWords
unfolding check_within course_within live closed killed steps_within steps_at read_text read_lines lines_from shape_of line_of insert insert_all expand expand_rule bodies_of
dead-words = record {
  second_takes_next = (refl, refl);
  third_takes_none = (refl, refl);
  exactly_full = (refl, refl);
  one_too_few = (refl, refl);
  extends = (refl, refl);
  extends_closed = (refl, refl);
  extends_exactly = (refl, refl);
  extends_short = (refl, refl);
  closed_once = (refl, refl);
  closed_twice = (refl, refl);
  never_fits = (refl, refl);
  dead_refute_nothing = refl;
}

pub long-lines : LongLines
unfolding decimal decimals
long-lines = record { open_line = refl; program_line = refl }

pub numbers : Numbers
numbers = record { programs = refl; proofs = refl; sets = refl }
