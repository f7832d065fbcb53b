-- The starred examples 1 to 8 of document 01 and its 'Others', jointly in one statement over the definitions;
-- proofs/Examples.antt proves it. Each field quotes its example.
-- Assumes nothing.
use Rattle.std.specs.Prelude.{◌≡◌, List, [], ◌∷◌, ◌++◌, ℕ, ◌-◌, ℤ, pos, neg_ℤ, length, map, replicate, Result, Ok}
use Prim.Native.String.{String}
use Rattle.words.specs.Limits.{entries}
use Rattle.aspif.specs.Rules.{InputRule, expand, program_words}
use Rattle.aspif.specs.Reading.{program, read_text}
use Rattle.aspif.specs.AnswerSets.{AnswerSet}
use Rattle.answer_set.specs.SetTest.{asked, set_answer}
use Rattle.answer_set.specs.Claims.{Listed, LowestRule}
use Rattle.answer_set.specs.declared.SetAnswer.{SetAnswer}
use Rattle.answer_set.specs.declared.SetAnswer.TheVariants.{Yes, Differs, Broken}
use Rattle.answer_set.specs.declared.SetFault.{SetFault}
use Rattle.answer_set.specs.declared.SetFault.TheVariants.{Unreadable, NotAscending, WrongMarks}
use Rattle.checker.specs.Check.{check}
use Rattle.checker.specs.Report.{verdict_line, lent, printed}
use Rattle.text.specs.Strings.{lines}
use Rattle.checker.specs.declared.Verdict.{Verdict}
use Rattle.checker.specs.declared.Verdict.TheVariants.{Inconsistent, Open, RefusedProgram, RefusedProof}
use Rattle.aspif.specs.declared.ProgramFault.TheVariants.{Malformed, TooLarge, TableFull, WeightOutOfRange, TooManyWeights}
use Rattle.aspif.specs.declared.ProgramFault.{ProgramFault}
use Rattle.aspif.specs.declared.ProgramFault.TheVariants as Program
use Rattle.aspif.specs.Numbers.{number_of}
use Rattle.drupe.specs.declared.ProofFault.TheVariants.{KnownName, NoUnnamedBody, NoCompletion, NoSupport, NoConflict, StoreFull, NoLoop}
use Rattle.drupe.specs.declared.ProofFault.{ProofFault}
use Rattle.drupe.specs.declared.ProofFault.TheVariants as Proof
use Rattle.drupe.specs.Numbers as ProofNumber
use Rattle.answer_set.specs.Numbers as SetNumber

-- Texts

-- the program text of some rule lines: "The first line is `asp 1 0 0`, the last is `0`."
abbrev pub rules : List String → List ℕ
rules ls = lines ("asp 1 0 0" ∷ ls ++ ("0" ∷ []))

-- "Starred example 1, files whole"
abbrev pub program1 : List ℕ
program1 = lines ("asp 1 0 0" ∷ "1 0 1 1 0 1 -1" ∷ "0" ∷ [])

abbrev pub proof1 : List ℕ
proof1 = lines ("b 2 -1 0" ∷ "c 2 1 0" ∷ "s 1 2 0" ∷ "a 1 0" ∷ "a 0" ∷ [])

-- "example 1 with its second step `e 1 2 0`"
abbrev pub proof3 : List ℕ
proof3 = lines ("b 2 -1 0" ∷ "e 1 2 0" ∷ "s 1 2 0" ∷ "a 1 0" ∷ "a 0" ∷ [])

-- "rules `1 0 1 1 0 1 2`, `1 0 1 2 0 1 1`, `1 0 0 0 1 -1`"
abbrev pub program5 : List ℕ
program5 = rules ("1 0 1 1 0 1 2" ∷ "1 0 1 2 0 1 1" ∷ "1 0 0 0 1 -1" ∷ [])

-- "example 5's first two rules"
abbrev pub program6 : List ℕ
program6 = rules ("1 0 1 1 0 1 2" ∷ "1 0 1 2 0 1 1" ∷ [])

abbrev pub program7 : List ℕ
program7 = rules ("1 1 1 1 0 0" ∷ [])

-- "example 1's rule with the fact `1 0 1 1 0 0`"
abbrev pub program8 : List ℕ
program8 = rules ("1 0 1 1 0 1 -1" ∷ "1 0 1 1 0 0" ∷ [])

-- What is said of them

abbrev pub verdict : List ℕ → List ℕ → Verdict
verdict text proof = (check text proof lent lent).verdict

-- `inconsistent N R S K`
abbrev pub inconsistent : ℕ → ℕ → ℕ → ℕ → Verdict
inconsistent n r s k = Inconsistent (record { atoms = n; rules = r; steps = s; nogoods = k })

-- `open N R S K`
abbrev pub undecided : ℕ → ℕ → ℕ → ℕ → Verdict
undecided n r s k = Open (record { atoms = n; rules = r; steps = s; nogoods = k })

-- `refused program NUMBER LINE`
abbrev pub refused_program : ProgramFault → ℕ → Verdict
refused_program k n = RefusedProgram (record { fault = k; line = n })

-- `refused proof NUMBER STEP`
abbrev pub refused_proof : ProofFault → ℕ → Verdict
refused_proof k n = RefusedProof (record { fault = k; step = n })

abbrev pub neg : ℕ → ℤ
neg v = neg_ℤ (pos v)

-- example 1's rule: normal, one head, body kind 0, one body literal; the head; the literal
abbrev pub table1 : List ℤ
table1 = pos 0 ∷ pos 1 ∷ pos 0 ∷ pos 1 ∷ pos 1 ∷ neg 1 ∷ []

-- "Store: 2 -1 -2, 2 1 2, 2 -1 2, 2 1 -2, 1 1, 0", each with "the number of the step that added it, as a word before its count";
-- without the last, which the closing `a 0` adds, and with it
abbrev pub store2 : List ℤ
store2 =
    pos 1 ∷ pos 2 ∷ neg 1 ∷ neg 2
    ∷ pos 1 ∷ pos 2 ∷ pos 1 ∷ pos 2
    ∷ pos 2 ∷ pos 2 ∷ neg 1 ∷ pos 2
    ∷ pos 3 ∷ pos 2 ∷ pos 1 ∷ neg 2
    ∷ pos 4 ∷ pos 1 ∷ pos 1 ∷ []

abbrev pub store1 : List ℤ
store1 = store2 ++ (pos 5 ∷ pos 0 ∷ [])

-- A set listed, and the program that a text holds: what the set test answers on the table of its words and 8,192 marks, and whether the
-- set is an answer set.
pub record SetPasses (text l : List ℕ) : Type 0 where
  pub P : List InputRule
  pub read : read_text lent text ≡ program P
  pub answer : set_answer l (asked (program_words P) (length P) l entries) ≡ Ok Yes
  pub answer_set : AnswerSet (Listed l) (expand P)

pub record SetFails (text l : List ℕ) (r : Result SetAnswer SetFault) : Type 0 where
  pub P : List InputRule
  pub read : read_text lent text ≡ program P
  pub answer : set_answer l (asked (program_words P) (length P) l entries) ≡ r
  pub none : ¬ AnswerSet (Listed l) (expand P)

pub record Starred : Type 0 where
  -- 1: "Prints `inconsistent 1 1 5 6`", with its store; "example 1 needs 21 words", and 20 give 34 at step 5
  pub one_prints : printed program1 proof1 ≡ lines ("inconsistent 1 1 5 6" ∷ [])
  pub one : check program1 proof1 lent lent
      ≡ record { verdict = inconsistent 1 1 5 6; table = table1 ++ replicate 16378 (pos 0); store = store1 ++ replicate 16363 (pos 0) }
  pub one_fits : check program1 proof1 6 21 ≡ record { verdict = inconsistent 1 1 5 6; table = table1; store = store1 }
  pub one_short : check program1 proof1 6 20
      ≡ record { verdict = refused_proof StoreFull 5; table = replicate 6 (pos 0); store = replicate 20 (pos 0) }
  -- 2: "example 1 with `d 0` added: `open 1 1 6 5`"
  pub two : verdict program1 (proof1 ++ lines ("d 0" ∷ [])) ≡ undecided 1 1 6 5
  pub two_prints : printed program1 (proof1 ++ lines ("d 0" ∷ [])) ≡ lines ("open 1 1 6 5" ∷ [])
  -- 3: "27, step 2"
  pub three : verdict program1 proof3 ≡ refused_proof KnownName 2
  pub three_prints : printed program1 proof3 ≡ lines ("refused proof 27 2" ∷ [])
  -- 4: "no rules, empty proof: `open 0 0 0 0`; the empty set passes. Proof `a 0`: 33, step 1."
  pub four : verdict (rules []) [] ≡ undecided 0 0 0 0
  pub four_empty : SetPasses (rules []) []
  pub four_adds : verdict (rules []) (lines ("a 0" ∷ [])) ≡ refused_proof NoConflict 1
  -- 5: "`inconsistent 2 3 4 5`. Without the `l` line: 33, step 3."
  pub five : verdict program5 (lines ("b 3 -1 0" ∷ "c 3 0" ∷ "l 1 2 0" ∷ "a 0" ∷ [])) ≡ inconsistent 2 3 4 5
  pub five_without : verdict program5 (lines ("b 3 -1 0" ∷ "c 3 0" ∷ "a 0" ∷ [])) ≡ refused_proof NoConflict 3
  -- 6: "the empty set passes, {1, 2} does not"
  pub six_empty : SetPasses program6 []
  pub six_one_two : SetFails program6 (1 ∷ 2 ∷ []) (Ok (Differs 1))
  -- 7: "both {} and {1} pass; proof `b 2 0`, `c 2 1 0`: 29, step 2"
  pub seven_empty : SetPasses program7 []
  pub seven_one : SetPasses program7 (1 ∷ [])
  pub seven : verdict program7 (lines ("b 2 0" ∷ "c 2 1 0" ∷ [])) ≡ refused_proof NoCompletion 2
  -- 8: "{1} passes"
  pub eight_one : SetPasses program8 (1 ∷ [])
  -- "literal `-0`: 3"
  pub minus_zero : verdict (rules ("1 0 1 1 0 1 -0" ∷ [])) [] ≡ refused_program Malformed 2
  pub minus_zero_prints : printed (rules ("1 0 1 1 0 1 -0" ∷ [])) [] ≡ lines ("refused program 3 2" ∷ [])
  -- "atom 4,095 good, 4,096: 4", and by Change 6 "the case at 4,095 take[s] the new figures"
  pub largest_atom : verdict (rules ("1 0 1 8191 0 0" ∷ [])) [] ≡ undecided 8191 1 0 0
  pub too_large : verdict (rules ("1 0 1 8192 0 0" ∷ [])) [] ≡ refused_program TooLarge 2
  -- "an `s` that leaves out one body: 30"
  pub left_out : verdict (rules ("1 0 1 1 0 1 2" ∷ "1 0 1 1 0 1 -2" ∷ [])) (lines ("b 3 2 0" ∷ "b 4 -2 0" ∷ "s 1 3 0" ∷ [])) ≡ refused_proof NoSupport 3

-- The worked example of source document 000: its example 1's eight rules, and the 26 lines of its figure 1. It is no starred one.

abbrev pub program000 : List ℕ
program000 =
    rules (
    "1 0 1 1 0 2 2 4" ∷ "1 0 1 2 0 2 1 4" ∷ "1 0 1 1 0 1 3" ∷ "1 0 1 2 0 2 3 4" ∷ "1 0 1 3 0 1 -4" ∷
    "1 0 1 4 0 1 -3" ∷ "1 0 1 5 0 2 3 -5" ∷ "1 0 1 5 0 2 -1 -5" ∷ [])

abbrev pub proof000 : List ℕ
proof000 =
    lines (
    "b 6 3 0" ∷ "b 7 -3 0" ∷ "b 8 -4 0" ∷ "b 9 1 4 0" ∷ "b 10 2 4 0" ∷ "b 11 3 4 0" ∷ "b 12 -1 -5 0" ∷
    "b 13 3 -5 0" ∷ "s 1 10 6 0" ∷ "c 8 3 0" ∷ "c 7 4 0" ∷ "c 9 2 0" ∷ "s 5 13 12 0" ∷ "l 1 2 0" ∷ "a -6 1 0" ∷
    "s 3 8 0" ∷ "s 4 7 0" ∷ "s 2 9 11 0" ∷ "a 5 -12 0" ∷ "c 13 5 0" ∷ "a 1 0" ∷ "c 10 1 0" ∷ "c 6 1 0" ∷ "a 5 0" ∷
    "c 12 5 0" ∷ "a 0" ∷ [])

abbrev pub Source000 : Type 0
Source000 = verdict program000 proof000 ≡ inconsistent 5 8 26 39

-- Weight bodies (Change 3), no starred ones: a choice over 1 to 3, a constraint with bound 4 on 1=3, 2=2, 3=2, and a demand of 1 and of
-- 2. Its minimal sets are {1, 2}, {1, 3} and {2, 3}.

abbrev pub weight_rules : List ℕ
weight_rules = rules ("1 1 3 1 2 3 0 0" ∷ "1 0 0 1 4 3 1 3 2 2 3 2" ∷ "1 0 0 0 1 -1" ∷ "1 0 0 0 1 -2" ∷ [])

pub record WeightBodies : Type 0 where
  pub refuted : verdict weight_rules (lines ("b 4 1 2 0" ∷ "b 5 -1 0" ∷ "b 6 -2 0" ∷ "c 4 0" ∷ "c 5 0" ∷ "c 6 0" ∷ "a 0" ∷ [])) ≡ inconsistent 3 4 7 11
  -- the whole literal set reaches the bound and is not minimal
  pub whole_set : verdict weight_rules (lines ("b 4 1 2 3 0" ∷ [])) ≡ refused_proof NoUnnamedBody 1
  -- "a weight or bound out of its range is 54, more than 12 literals 55"
  pub weight_range : verdict (rules ("1 0 1 1 1 3 1 2 -1" ∷ [])) [] ≡ refused_program WeightOutOfRange 2
  pub too_many : verdict (rules ("1 0 0 1 1 13 1 1 2 1 3 1 4 1 5 1 6 1 7 1 8 1 9 1 10 1 11 1 12 1 13 1" ∷ [])) [] ≡ refused_program TooManyWeights 2

-- A broken constraint, no starred one: the first rule is a constraint that stands for three plain ones, of {1, 2}, {1, 3} and {2, 3}, the third
-- a choice. The set {1} equals the least model, and breaks the second rule and the fourth.

abbrev pub broken_rules : List ℕ
broken_rules = rules ("1 0 0 1 4 3 1 3 2 2 3 2" ∷ "1 0 0 0 2 1 -2" ∷ "1 1 3 1 2 3 0 0" ∷ "1 0 0 0 1 1" ∷ [])

pub record BrokenSecond : Type 0 where
  pub answered : SetFails broken_rules (1 ∷ []) (Ok (Broken 2))
  -- what that number means: `LowestBroken` in crates/answer_set/specs/Claims.antt
  pub lowest : LowestRule (Listed (1 ∷ [])) answered.P 2

-- Loops (Change 5), no starred ones
pub record LoopsOnly : Type 0 where
  -- "A set that is no loop is refused with 56, asked right after question 31": with example 6's rules 1 alone is none.
  -- Question 32 would be answered no too, since its external body has no name.
  pub six_no_loop : verdict program6 (lines ("l 1 0" ∷ [])) ≡ refused_proof NoLoop 1
  -- "weight rules as expanded": with bound 2 on 1=2, 2=1 the minimal set is {1}; on 1=1, 2=2 it is {2}
  pub weight_loop : verdict (rules ("1 0 1 1 1 2 2 1 2 2 1" ∷ [])) (lines ("l 1 0" ∷ [])) ≡ undecided 2 1 1 1
  pub weight_no_loop : verdict (rules ("1 0 1 1 1 2 2 1 1 2 2" ∷ [])) (lines ("l 1 0" ∷ [])) ≡ refused_proof NoLoop 1

-- Origins (Change 7), no starred ones: the store that each proof leaves, of the length given, with 0 after its words. The fact
-- `1 0 1 1 0 0` is the one rule of all but the first two.

abbrev pub leaves : (text proof : List ℕ) (size : ℕ) → Verdict → List ℤ → Type 0
leaves text proof size v words =
    ((check text proof lent size).verdict ≡ v)
    × ((check text proof lent size).store ≡ words ++ replicate (size - length words) (pos 0))

abbrev pub fact : List ℕ
fact = rules ("1 0 1 1 0 0" ∷ [])

pub record OriginWords : Type 0 where
  -- the empty nogood is dead
  pub deleted : leaves program1 (proof1 ++ lines ("d 0" ∷ [])) 24 (undecided 1 1 6 5) (store2 ++ (neg 5 ∷ pos 0 ∷ []))
  -- a deletion counts as a step
  pub counted : leaves program1 (lines ("b 2 -1 0" ∷ "c 2 1 0" ∷ "d -1 -2 0" ∷ "s 1 2 0" ∷ [])) 16 (undecided 1 1 4 3)
      (neg 1 ∷ pos 2 ∷ neg 1 ∷ neg 2
      ∷ pos 1 ∷ pos 2 ∷ pos 1 ∷ pos 2
      ∷ pos 2 ∷ pos 2 ∷ neg 1 ∷ pos 2
      ∷ pos 4 ∷ pos 2 ∷ pos 1 ∷ neg 2 ∷ [])
  -- "Deletion still takes the oldest equal set, whatever its origin"
  pub oldest : leaves fact (lines ("b 2 0" ∷ "c 2 1 0" ∷ "c 2 1 0" ∷ "d -1 2 0" ∷ [])) 16 (undecided 1 1 4 2)
      (pos 1 ∷ pos 1 ∷ neg 2
      ∷ neg 2 ∷ pos 2 ∷ neg 1 ∷ pos 2
      ∷ pos 3 ∷ pos 2 ∷ neg 1 ∷ pos 2 ∷ [])
  -- a deletion that takes nothing away counts too
  pub idle : leaves fact (lines ("d 1 0" ∷ "b 2 0" ∷ [])) 16 (undecided 1 1 2 1) (pos 2 ∷ pos 1 ∷ neg 2 ∷ [])
  -- the words are just enough, or one too few
  pub again : leaves fact (lines ("b 2 0" ∷ "c 2 1 0" ∷ "d -2 0" ∷ "c 2 1 0" ∷ "c 2 1 0" ∷ [])) 12 (undecided 1 1 5 3)
      (pos 2 ∷ pos 2 ∷ neg 1 ∷ pos 2
      ∷ pos 4 ∷ pos 2 ∷ neg 1 ∷ pos 2
      ∷ pos 5 ∷ pos 2 ∷ neg 1 ∷ pos 2 ∷ [])
  pub again_short : leaves fact (lines ("b 2 0" ∷ "c 2 1 0" ∷ "d -2 0" ∷ "c 2 1 0" ∷ "c 2 1 0" ∷ [])) 11 (refused_proof StoreFull 5) []
  -- all nogoods of one `e` carry its number
  pub together : leaves fact (lines ("b 2 0" ∷ "e 3 1 2 0" ∷ [])) 16 (undecided 1 1 2 4)
      (pos 1 ∷ pos 1 ∷ neg 2
      ∷ pos 2 ∷ pos 3 ∷ pos 1 ∷ pos 2 ∷ neg 3
      ∷ pos 2 ∷ pos 2 ∷ neg 1 ∷ pos 3
      ∷ pos 2 ∷ pos 2 ∷ neg 2 ∷ pos 3 ∷ [])
  pub together_short : leaves fact (lines ("b 2 0" ∷ "e 3 1 2 0" ∷ [])) 15 (refused_proof StoreFull 2) []

-- Marks and closing up (Change 8), no starred ones: the same rules, stores and lengths

abbrev pub two_of_two : List String
two_of_two = "b 2 0" ∷ "c 2 1 0" ∷ "c 2 1 0" ∷ "d 2 -1 0" ∷ "d -1 2 0" ∷ []

abbrev pub then_twice : List String
then_twice = "b 2 0" ∷ "c 2 1 0" ∷ "d -2 0" ∷ "c 2 1 0" ∷ "c 2 1 0" ∷ []

abbrev pub then_extended : List String
then_extended = "b 2 0" ∷ "d -2 0" ∷ "e 3 1 2 0" ∷ []

-- the words of its `e`
abbrev pub extended : List ℤ
extended =
    pos 3 ∷ pos 3 ∷ pos 1 ∷ pos 2 ∷ neg 3
    ∷ pos 3 ∷ pos 2 ∷ neg 1 ∷ pos 3
    ∷ pos 3 ∷ pos 2 ∷ neg 2 ∷ pos 3 ∷ []

abbrev pub over_and_over : List String
over_and_over = "b 2 0" ∷ "c 2 1 0" ∷ "d -2 0" ∷ "d -1 2 0" ∷ "c 2 1 0" ∷ "d -1 2 0" ∷ "c 2 1 0" ∷ []

-- the words of a `c 2 1 0` that is step n
abbrev pub completed : ℕ → List ℤ
completed n = pos n ∷ pos 2 ∷ neg 1 ∷ pos 2 ∷ []

pub record DeadWords : Type 0 where
  -- a second deletion of the same set passes over the dead one and takes the next; a third takes none
  pub second_takes_next : leaves fact (lines two_of_two) 16 (undecided 1 1 5 1)
      (pos 1 ∷ pos 1 ∷ neg 2
      ∷ neg 2 ∷ pos 2 ∷ neg 1 ∷ pos 2
      ∷ neg 3 ∷ pos 2 ∷ neg 1 ∷ pos 2 ∷ [])
  pub third_takes_none : leaves fact (lines (two_of_two ++ ("d -1 2 0" ∷ []))) 16 (undecided 1 1 6 1)
      (pos 1 ∷ pos 1 ∷ neg 2
      ∷ neg 2 ∷ pos 2 ∷ neg 1 ∷ pos 2
      ∷ neg 3 ∷ pos 2 ∷ neg 1 ∷ pos 2 ∷ [])
  -- filling the store exactly is a fit: it is not closed up
  pub exactly_full : leaves fact (lines then_twice) 15 (undecided 1 1 5 3)
      (neg 1 ∷ pos 1 ∷ neg 2 ∷ completed 2 ++ (completed 4 ++ completed 5))
  -- "The store is closed up .. only before a step that would not fit otherwise": before step 5
  pub one_too_few : leaves fact (lines then_twice) 14 (undecided 1 1 5 3) (completed 2 ++ (completed 4 ++ completed 5))
  -- judged for all nogoods of an `e` together
  pub extends : leaves fact (lines then_extended) 16 (undecided 1 1 3 3) (neg 1 ∷ pos 1 ∷ neg 2 ∷ extended)
  pub extends_closed : leaves fact (lines then_extended) 15 (undecided 1 1 3 3) extended
  pub extends_exactly : leaves fact (lines then_extended) 13 (undecided 1 1 3 3) extended
  pub extends_short : leaves fact (lines then_extended) 12 (refused_proof StoreFull 3) []
  -- closed up again and again
  pub closed_once : leaves fact (lines over_and_over) 8 (undecided 1 1 7 1) (neg 5 ∷ pos 2 ∷ neg 1 ∷ pos 2 ∷ completed 7)
  pub closed_twice : leaves fact (lines over_and_over) 7 (undecided 1 1 7 1) (completed 7)
  pub never_fits : leaves fact (lines over_and_over) 6 (refused_proof StoreFull 2) []
  -- the dead refute nothing
  pub dead_refute_nothing : verdict program1 (proof1 ++ lines ("d 0" ∷ "d 1 0" ∷ "a 0" ∷ [])) ≡ refused_proof NoConflict 8

-- lines with numbers of several digits, of which the starred examples have none
pub record LongLines : Type 0 where
  pub open_line : verdict_line (undecided 8191 1 0 0) ≡ lines ("open 8191 1 0 0" ∷ [])
  pub program_line : verdict_line (refused_program TableFull 1025) ≡ lines ("refused program 10 1025" ∷ [])

-- By which number each refusal is told, in the order of the faults' names: a name above stands for its number here.
pub record Numbers : Type 0 where
  -- of a program text, 1 to 11, and 54 and 55 of Change 3
  pub programs : map number_of
      (Program.TooLong ∷ Program.NoHeader ∷ Program.Malformed ∷ Program.TooLarge ∷ Program.WrongKind ∷ Program.WrongCount
      ∷ Program.UnsuitedHeads ∷ Program.WrongLiterals ∷ Program.TooManyRules ∷ Program.TableFull ∷ Program.TextAfterEnd
      ∷ Program.WeightOutOfRange ∷ Program.TooManyWeights ∷ [])
      ≡ 1 ∷ 2 ∷ 3 ∷ 4 ∷ 5 ∷ 6 ∷ 7 ∷ 8 ∷ 9 ∷ 10 ∷ 11 ∷ 54 ∷ 55 ∷ []
  -- of a proof, 21 to 34, and 56 of Change 5
  pub proofs : map ProofNumber.number_of
      (Proof.TooLong ∷ Proof.Malformed ∷ Proof.OutOfRange ∷ Proof.WrongSigns ∷ Proof.RepeatedVariable
      ∷ Proof.UnknownVariable ∷ Proof.KnownName ∷ Proof.NoUnnamedBody ∷ Proof.NoCompletion ∷ Proof.NoSupport
      ∷ Proof.NoAtoms ∷ Proof.UnnamedBody ∷ Proof.NoConflict ∷ Proof.StoreFull ∷ Proof.NoLoop ∷ [])
      ≡ 21 ∷ 22 ∷ 23 ∷ 24 ∷ 25 ∷ 26 ∷ 27 ∷ 28 ∷ 29 ∷ 30 ∷ 31 ∷ 32 ∷ 33 ∷ 34 ∷ 56 ∷ []
  -- of the set test, 41 to 43
  pub sets : map SetNumber.number_of (Unreadable ∷ NotAscending ∷ WrongMarks ∷ []) ≡ 41 ∷ 42 ∷ 43 ∷ []
