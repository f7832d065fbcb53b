-- What is claimed of the merge over texts; proofs/OverTexts.antt and proofs/Exactly.antt prove it.
-- Assumes nothing.
use Rattle.std.specs.Prelude.{◌≡◌, ◌⊎◌, ◌↔◌, true, List, ◌++◌, ℕ, ◌-◌, ◌≤◌, ◌<◌, ℤ, length, take, replicate, Ok, Err}
use Rattle.words.specs.Limits.{longest}
use Rattle.aspif.specs.Rules.{InputRule, expand, atoms}
use Rattle.aspif.specs.Reading.{program, read_text}
use Rattle.drupe.specs.Texts.{Step, steps, text_of, steps_of}
use Rattle.derivation.specs.States.{State, start}
use Rattle.derivation.specs.Steps.{next}
use Rattle.derivation.specs.Steps as Steps
use Rattle.derivation.specs.Claims.{NoneAsWritten}
use Rattle.nogoods.specs.Store.{words_for}
use Rattle.runs.specs.Course.{stopped, course, is_accepted}
use Rattle.checker.specs.Check.{check}
use Rattle.checker.specs.declared.Counts.{Counts}
use Rattle.checker.specs.declared.Verdict.TheVariants.{Inconsistent, RefusedProof}
use Rattle.merging.specs.Merge.{all_fit}
use Rattle.merging.specs.Claims.{Accepted}
use Rattle.drupe.specs.declared.ProofFault.TheVariants as Fault
use Rattle.splits.specs.Service.{are_halves, merged_steps, is_writable, MergedHalves, MergeAnswer}
use Rattle.splits.specs.declared.MergeFault.TheVariants.{StoreFull}
use Rattle.splits.specs.Numbers.{number_of}
use Rattle.aspif.specs.declared.Refusal.TheVariants.{Service}

-- "live words past the store": after the first n of the steps there are more live words than the store has
abbrev pub PastStore : (size : ℕ) → List InputRule → List Step → Type 0
PastStore size ws ts =
    (n : ℕ) × (z : State) × (Steps.steps (atoms ws) (expand ws) start (take n ts) ≡ next z) × (size < words_for z.live)

-- "The merged proof is accepted whenever it fits", of any rules, also those that no reader takes, as the constraints on a path make them:
-- where the halves are accepted with a store of so many words and the merged lines and text keep to their limits, the merged steps are
-- accepted, question 34 aside, and their text is read back as these steps. With such a store the text is accepted where
-- the live words never go past it; where they do, 34 stops the check.
abbrev pub MergedEnds : Type 0
MergedEnds =
    (size : ℕ) (ws : List InputRule) (v : ℕ) (first second : List ℕ) → are_halves size ws v first second ≡ true
    → all_fit (merged_steps ws v first second) ≡ true → length (text_of (merged_steps ws v first second)) ≤ longest
    → Accepted (atoms ws) (expand ws) (merged_steps ws v first second)
    × ((steps_of (text_of (merged_steps ws v first second)) ≡ steps (merged_steps ws v first second))
    × (((¬ (PastStore size ws (merged_steps ws v first second))) × (is_accepted size ws (text_of (merged_steps ws v first second)) ≡ true))
    ⊎ (PastStore size ws (merged_steps ws v first second)
    × ((n : ℕ) × (course (atoms ws) (expand ws) size (text_of (merged_steps ws v first second)) ≡ stopped Fault.StoreFull n)))))

-- "The merged proof is accepted whenever it fits": where the halves are accepted with a store of s words and the merged lines and text
-- keep to their limits, the check of that text with such a store says "inconsistent" or stops with 34, and nothing else
abbrev pub MergedText : Type 1
MergedText =
    (text : List ℕ) (t s : ℕ) (ws : List InputRule) → read_text t text ≡ program ws → (v : ℕ) (first second : List ℕ)
    → are_halves s ws v first second ≡ true → all_fit (merged_steps ws v first second) ≡ true
    → length (text_of (merged_steps ws v first second)) ≤ longest
    → (((c : Counts) × ((check text (text_of (merged_steps ws v first second)) t s).verdict ≡ Inconsistent c))
    ⊎ ((n : ℕ) × ((check text (text_of (merged_steps ws v first second)) t s).verdict ≡ RefusedProof (record { fault = Fault.StoreFull; step = n }))))
    × NoneAsWritten ws

-- neither 57 nor 58: both halves are accepted with a store of s words, and the merged lines, names and text keep to their limits and to an
-- output of o bytes
abbrev pub Joins : (s o : ℕ) → List InputRule → (atom : ℕ) → (first second : List ℕ) → Type 0
Joins s o ws v first second = (are_halves s ws v first second ≡ true) × (is_writable o (merged_steps ws v first second) ≡ true)

-- when the answer is a text and when 59, of the rules that were read, and what the output then holds
pub record Exactly (s o : ℕ) (ws : List InputRule) (v : ℕ) (first second output' : List ℕ) (r : MergeAnswer) : Type 0 where
  -- a proof is written exactly where everything fits
  pub merged : ((n : ℕ) × (r ≡ Ok n)) ↔ (Joins s o ws v first second × (¬ (PastStore s ws (merged_steps ws v first second))))
  -- it is the text of the merged steps, with 0 after it
  pub text : (n : ℕ) → r ≡ Ok n
      → (n ≡ length (text_of (merged_steps ws v first second)))
      × (output' ≡ text_of (merged_steps ws v first second) ++ replicate (o - n) 0)
  -- "live words past the store 59", and nothing else
  pub full : (r ≡ Err (Service StoreFull)) ↔ (Joins s o ws v first second × PastStore s ws (merged_steps ws v first second))
  pub number : number_of StoreFull ≡ 59

-- the same by the contract, whatever the service is lent
abbrev pub MergedExactly : Type 0
MergedExactly =
    (text : List ℕ) (v : ℕ) (first second : List ℕ) (table store table' store' : List ℤ) (output output' : List ℕ) (r : MergeAnswer)
    → MergedHalves text v first second table store table' store' output output' r
    → (ws : List InputRule) → read_text (length table) text ≡ program ws → Exactly (length store) (length output) ws v first second output' r

-- demand 3 of the service, by its contract, whatever it is lent: where it writes a proof, the program that it read has no answer set,
-- nor has that program with any further constraints; 59 says as much
abbrev pub Demand3Merged : Type 1
Demand3Merged =
    (text : List ℕ) (v : ℕ) (first second : List ℕ) (table store table' store' : List ℤ) (output output' : List ℕ) (r : MergeAnswer)
    → MergedHalves text v first second table store table' store' output output' r → ((n : ℕ) × (r ≡ Ok n)) ⊎ (r ≡ Err (Service StoreFull))
    → (ws : List InputRule) × (read_text (length table) text ≡ program ws) × NoneAsWritten ws

-- "the store is as the check of the proof written .. leaves it": the text written, checked with the same lengths, is found inconsistent,
-- and table and store are as that check leaves them
abbrev pub AsChecked : Type 0
AsChecked =
    (text : List ℕ) (v : ℕ) (first second : List ℕ) (table store table' store' : List ℤ) (output output' : List ℕ) (n : ℕ)
    → MergedHalves text v first second table store table' store' output output' (Ok n)
    → (c : Counts) × (check text (take n output') (length table) (length store)
    ≡ record { verdict = Inconsistent c; table = table'; store = store' })
