-- What the service answers on worked cases, by its definition; proofs/Examples.antt computes them, and takes `past` and `within` from
-- `MergedExactly`. The texts are those of merging/specs/Examples.antt.
-- Assumes nothing.
use Rattle.std.specs.Prelude.{◌≡◌, List, [], ◌∷◌, ◌++◌, map, ℕ, ℤ, pos, neg_ℤ, replicate, Ok, Err}
use Rattle.text.specs.Strings.{lines}
use Rattle.merging.specs.Examples.{rules, program_a, later_first_a, later_a, second_a}
use Rattle.splits.specs.Service.{merged_steps, merge, MergeAnswer}
use Rattle.splits.specs.Claims.{PastStore}
use Rattle.splits.specs.declared.MergeFault.TheVariants.{NotAccepted, NotWritable, StoreFull}
use Rattle.splits.specs.Numbers.{number_of}
use Rattle.aspif.specs.declared.Refusal.TheVariants.{Program, Service}
use Rattle.aspif.specs.declared.ProgramFault.TheVariants.{TableFull}

-- program A, its two halves and their merge, as texts
abbrev pub text_a : List ℕ
text_a = lines ("asp 1 0 0" ∷ program_a ++ ("0" ∷ []))

abbrev pub half_a : List ℕ
half_a = lines ("b 3 -1 0" ∷ "c 3 0" ∷ later_first_a)

abbrev pub other_a : List ℕ
other_a = lines second_a

abbrev pub whole_a : List ℕ
whole_a = lines ("e 3 -1 0" ∷ later_a)

-- the answer with tables, stores and outputs of these lengths
abbrev pub answer_a : (table store output atom : ℕ) → MergeAnswer
answer_a t s o v = (merge t s o text_a v half_a other_a).answer

-- the words of a rule without weights: head kind, head count, body kind, body count, heads and body
abbrev pub table_a : List ℤ
table_a =
    pos 1 ∷ pos 2 ∷ pos 0 ∷ pos 0 ∷ pos 1 ∷ pos 2
    ∷ pos 0 ∷ pos 0 ∷ pos 0 ∷ pos 2 ∷ pos 1 ∷ pos 2
    ∷ pos 0 ∷ pos 0 ∷ pos 0 ∷ pos 2 ∷ pos 1 ∷ neg_ℤ (pos 2)
    ∷ pos 0 ∷ pos 0 ∷ pos 0 ∷ pos 2 ∷ neg_ℤ (pos 1) ∷ pos 2
    ∷ pos 0 ∷ pos 0 ∷ pos 0 ∷ pos 2 ∷ neg_ℤ (pos 1) ∷ neg_ℤ (pos 2) ∷ []

pub record Worked : Type 0 where
  -- the table and the output as they are left, with 0 after what they hold
  pub good : answer_a 30 124 167 1 ≡ Ok 167
  pub table : (merge 32 124 170 text_a 1 half_a other_a).table ≡ table_a ++ (pos 0 ∷ pos 0 ∷ [])
  pub output : (merge 32 124 170 text_a 1 half_a other_a).output ≡ whole_a ++ (0 ∷ 0 ∷ 0 ∷ [])
  pub short-table : answer_a 29 124 167 1 ≡ Err (Program (record { fault = TableFull; line = 6 }))
  -- "live words past the store 59"; the second half needs 84
  pub short-store : answer_a 30 123 167 1 ≡ Err (Service StoreFull)
  pub past : PastStore 123 (rules program_a) (merged_steps (rules program_a) 1 half_a other_a)
  pub within : ¬ (PastStore 124 (rules program_a) (merged_steps (rules program_a) 1 half_a other_a))
  pub half-store : answer_a 30 84 167 1 ≡ Err (Service StoreFull)
  pub no_store : answer_a 30 83 167 1 ≡ Err (Service NotAccepted)
  -- 58 before 59
  pub short-output : answer_a 30 124 166 1 ≡ Err (Service NotWritable)
  pub both-short : answer_a 30 123 166 1 ≡ Err (Service NotWritable)
  -- "a foreign atom"
  pub no-atom : answer_a 30 124 167 0 ≡ Err (Service NotAccepted)
  pub foreign-atom : answer_a 30 124 167 3 ≡ Err (Service NotAccepted)
  pub other-atom : answer_a 30 124 167 2 ≡ Err (Service NotAccepted)
  pub exchanged : (merge 30 124 167 text_a 1 other_a half_a).answer ≡ Err (Service NotAccepted)
  pub open-half : (merge 30 124 167 text_a 1 half_a (other_a ++ lines ("d 0" ∷ []))).answer ≡ Err (Service NotAccepted)
  -- nothing stays of what is refused
  pub nothing : merge 30 123 4 text_a 1 half_a other_a
      ≡ record { answer = Err (Service NotWritable); table = replicate 30 (pos 0); store = replicate 123 (pos 0); output = 0 ∷ 0 ∷ 0 ∷ 0 ∷ [] }
  -- by which numbers these refusals are told
  pub numbers : map number_of (NotAccepted ∷ NotWritable ∷ StoreFull ∷ []) ≡ 57 ∷ 58 ∷ 59 ∷ []
