-- What `merge_halves` answers and leaves, of the texts, the atom and the lengths of what it is lent: document 02, Change 9.
-- Assumes nothing.
use Rattle.std.specs.Prelude.{◌≡◌, Bool, cond, ◌&&◌, List, ◌++◌, ℕ, ◌-◌, leb, ℤ, pos, neg_ℤ, length, replicate, Result, Ok, Err}
use Rattle.words.specs.Limits.{longest}
use Rattle.aspif.specs.Rules.{InputRule, expand, atoms, table_words}
use Rattle.aspif.specs.Reading.{Reading, refused, program, read_text}
use Rattle.drupe.specs.Texts.{Step, steps, text_of, steps_of}
use Rattle.drupe.specs.Texts as Texts
use Rattle.derivation.specs.States.{is_atom}
use Rattle.derivation.specs.Steps.{empty_live}
use Rattle.nogoods.specs.Store.{store_words}
use Rattle.runs.specs.Course.{Course, stopped, through, course, is_accepted}
use Rattle.merging.specs.Merge.{all_fit}
use Rattle.merging.specs.Claims.{demanding_as_written, merged_as_written}
use Rattle.aspif.specs.declared.Refusal.{Refusal}
use Rattle.aspif.specs.declared.Refusal.TheVariants.{Program, Service}
use Rattle.splits.specs.declared.MergeFault.{MergeFault}
use Rattle.splits.specs.declared.MergeFault.TheVariants.{NotAccepted, NotWritable, StoreFull}

-- "A half that its check, with the lent store, refuses or finds open" is none, and "Questions 1, 9 and 10 are not put to added
-- constraints": is_accepted

-- "The split atom must be one of the program's", and each half is accepted for its program
abbrev pub are_halves : (size : ℕ) → List InputRule → (atom : ℕ) → (first second : List ℕ) → Bool
are_halves size ws v first second =
    is_atom (atoms ws) v
    && (is_accepted size (demanding_as_written ws (pos v)) first && is_accepted size (demanding_as_written ws (neg_ℤ (pos v))) second)

-- the steps of a proof text; of one that is refused, those before the line at fault
abbrev pub steps_in : List ℕ → List Step
steps_in text = elim (steps_of text) [ steps ts ↦ ts | Texts.refused ts k n ↦ ts ]

-- the merged steps of two texts
abbrev pub merged_steps : List InputRule → (atom : ℕ) → (first second : List ℕ) → List Step
merged_steps ws v first second = merged_as_written ws v (steps_in first) (steps_in second)

-- not "a line or name over its limit or a text over 65,535 bytes or the lent output"
abbrev pub is_writable : (size : ℕ) → List Step → Bool
is_writable size ts = all_fit ts && (leb (length (text_of ts)) longest && leb (length (text_of ts)) size)

-- the length of the text written; or what is wrong with the program and the line, or the question of the merge's own
-- that is failed
abbrev pub MergeAnswer : Type 0
MergeAnswer = Result ℕ (Refusal MergeFault)

-- the answer with every word of the table and the store and every byte of the output
pub record MergeLeft : Type 0 where
  pub answer : MergeAnswer
  pub table : List ℤ
  pub store : List ℤ
  pub output : List ℕ

-- the lengths of table, store and output
module _ (t s o : ℕ) where
  -- "Output and refusals are as in Change 1": nothing stays of what is refused
  abbrev pub leaves_nothing : MergeAnswer → MergeLeft
  leaves_nothing a = record { answer = a; table = replicate t (pos 0); store = replicate s (pos 0); output = replicate o 0 }

  -- "live words past the store 59"; "the table holds the program alone, and the store is as the check of the proof written .. leaves it"
  abbrev pub judged_text : List InputRule → (text : List ℕ) → Course → MergeLeft
  judged_text ws text (stopped k n) = leaves_nothing (Err (Service StoreFull))
  judged_text ws text (through n z stored) =
      cond (empty_live z)
      (record {
        answer = Ok (length text);
        table = table_words t ws;
        store = store_words s stored;
        output = text ++ replicate (o - length text) 0;
      })
      (leaves_nothing (Err (Service StoreFull)))

  -- "judged in this order after the program's own questions": 57, 58, 59
  abbrev pub merged_reading : (atom : ℕ) → (first second : List ℕ) → Reading → MergeLeft
  merged_reading v first second (refused k n) = leaves_nothing (Err (Program (record { fault = k; line = n })))
  merged_reading v first second (program ws) =
      let text = text_of (merged_steps ws v first second) in
      cond (are_halves s ws v first second)
      (cond (is_writable o (merged_steps ws v first second)) (judged_text ws text (course (atoms ws) (expand ws) s text))
      (leaves_nothing (Err (Service NotWritable))))
      (leaves_nothing (Err (Service NotAccepted)))

  unfoldable pub merge : (text : List ℕ) → (atom : ℕ) → (first second : List ℕ) → MergeLeft
  merge text v first second = merged_reading v first second (read_text t text)

-- the public contract of `merge_halves`, whatever it is lent
abbrev pub MergedHalves : (text : List ℕ) → (atom : ℕ) → (first second : List ℕ) → (table store table' store' : List ℤ) → (output output' : List ℕ)
    → MergeAnswer → Type 0
MergedHalves text v first second table store table' store' output output' r =
    record { answer = r; table = table'; store = store'; output = output' }
    ≡ merge (length table) (length store) (length output) text v first second
