-- What `trim_proof` answers and leaves, of the two texts and the lengths of table and store: document 02, Change 10.
-- Assumes nothing.
use Rattle.std.specs.Prelude.{◌≡◌, Result, Ok, Err, Bool, cond, List, [], ◌++◌, ℕ, ◌-◌, ℤ, pos, length, replicate}
use Rattle.aspif.specs.Rules.{InputRule, expand, atoms, table_words}
use Rattle.aspif.specs.Reading.{Reading, program, read_text}
use Rattle.drupe.specs.Texts.{Step, StepsRead, steps, refused, text_of, steps_of}
use Rattle.derivation.specs.States.{start}
use Rattle.nogoods.specs.Store.{store_words}
use Rattle.runs.specs.Course.{Course, stopped, through, run_steps, ends_empty}
use Rattle.trimming.specs.Trims.{trimmed}
use Rattle.aspif.specs.declared.Refusal.{Refusal}
use Rattle.aspif.specs.declared.Refusal.TheVariants.{Program, Service}
use Rattle.trimming.specs.declared.TrimFault.{TrimFault}
use Rattle.trimming.specs.declared.TrimFault.TheVariants.{NotAccepted}

-- the trimmed text's bytes, or why the proof is refused
abbrev pub TrimAnswer : Type 0
TrimAnswer = Result ℕ (Refusal TrimFault)

-- the course of steps with a store of so many words, without the text
abbrev pub course_of : (size : ℕ) → List InputRule → List Step → Course
course_of size ws ts = run_steps (atoms ws) (expand ws) size 0 start [] ts

-- "accepted": questions 26 to 33 and 56, and after each step 34 with the lent store; then the empty nogood is live
abbrev pub accepted : (size : ℕ) → List InputRule → List Step → Bool
accepted size ws ts = ends_empty (course_of size ws ts)

-- what is left of the steps
abbrev pub trimmed_steps : (size : ℕ) → List InputRule → List Step → List Step
trimmed_steps size ws ts = trimmed (accepted size ws) ts

-- the answer with every byte of the text and every word of the table and the store
pub record TrimLeft : Type 0 where
  pub answer : TrimAnswer
  pub text : List ℕ
  pub table : List ℤ
  pub store : List ℤ

-- the lengths of table and store, and the proof text that is lent
module _ (t s : ℕ) (proof : List ℕ) where
  -- "handed back untouched"; table and store are 0 throughout
  abbrev pub untouched : TrimAnswer → TrimLeft
  untouched a = record { answer = a; text = proof; table = replicate t (pos 0); store = replicate s (pos 0) }

  -- "the store is as the check of the proof written or taken leaves it"
  abbrev pub store_after : Course → List ℤ
  store_after (stopped k n) = replicate s (pos 0)
  store_after (through n z stored) = store_words s stored

  -- "It stands in the lent text, with zero bytes after it."
  abbrev pub trimmed_to : List InputRule → List Step → TrimLeft
  trimmed_to ws us = record {
    answer = Ok (length (text_of us));
    text = text_of us ++ replicate (length proof - length (text_of us)) 0;
    table = table_words t ws;
    store = store_after (course_of s ws us);
  }

  -- "An input that isn't accepted itself .. 60"
  abbrev pub trimmed_read : List InputRule → StepsRead → TrimLeft
  trimmed_read ws (steps ts) = cond (accepted s ws ts) (trimmed_to ws (trimmed_steps s ws ts)) (untouched (Err (Service NotAccepted)))
  trimmed_read ws (refused before k n) = untouched (Err (Service NotAccepted))

  -- "asked right after the program's own questions; a program refusal leaves the text untouched too"
  abbrev pub trimmed_reading : Reading → TrimLeft
  trimmed_reading (Reading.refused k n) = untouched (Err (Program (record { fault = k; line = n })))
  trimmed_reading (program ws) = trimmed_read ws (steps_of proof)

  unfoldable pub trim : (program : List ℕ) → TrimLeft
  trim text = trimmed_reading (read_text t text)

-- the public contract of `trim_proof`, whatever it is lent
abbrev pub TrimmedProof : (program proof proof' : List ℕ) → (table store table' store' : List ℤ) → TrimAnswer → Type 0
TrimmedProof text proof proof' table store table' store' r =
    record { answer = r; text = proof'; table = table'; store = store' } ≡ trim (length table) (length store) proof text
