-- What is claimed of trimming: over any list and test, then of proofs, then of the service by its contract.
-- Assumes nothing.
use Rattle.std.specs.Prelude.{◌≡◌, Ok, Bool, true, false, List, ◌∷◌, ◌++◌, ℕ, ◌-◌, ℤ, pos, length, take, replicate}
use Rattle.aspif.specs.Rules.{InputRule}
use Rattle.aspif.specs.Reading.{program, read_text}
use Rattle.drupe.specs.Texts.{Step, steps, text_of, steps_of}
use Rattle.derivation.specs.Claims.{NoneAsWritten}
use Rattle.runs.specs.Course.{is_accepted}
use Rattle.checker.specs.Check.{check}
use Rattle.checker.specs.declared.Counts.{Counts}
use Rattle.checker.specs.declared.Verdict.TheVariants.{Inconsistent}
use Rattle.trimming.specs.Trims.{trimmed, Sublist}
use Rattle.trimming.specs.Service.{TrimAnswer, accepted, trimmed_steps, TrimmedProof}

-- "The result is an accepted proof", and the program then has no answer set
abbrev pub TrimmedAccepted : Type 1
TrimmedAccepted =
    (size : ℕ) (ws : List InputRule) (ts : List Step) → accepted size ws ts ≡ true
    → (accepted size ws (trimmed_steps size ws ts) ≡ true) × NoneAsWritten ws

-- "its steps stand in their old order"; of every list and test
abbrev pub TrimmedOrder : Type 1
TrimmedOrder = (A : Type 0) (test : List A → Bool) (ts : List A) → Sublist (trimmed test ts) ts

-- "and leaving out any single one of them makes it unaccepted"; of every list and test
abbrev pub TrimmedMinimal : Type 1
TrimmedMinimal =
    (A : Type 0) (test : List A → Bool) (ts : List A) → test ts ≡ true → (front : List A) (t : A) (back : List A)
    → trimmed test ts ≡ front ++ (t ∷ back) → test (front ++ back) ≡ false

-- the result trimmed is the result
abbrev pub TrimmedAgain : Type 1
TrimmedAgain = (A : Type 0) (test : List A → Bool) (ts : List A) → test ts ≡ true → trimmed test (trimmed test ts) ≡ trimmed test ts

-- demand 3 of the service, by its contract, whatever it is lent: where it trims a proof, the program that it read has no answer set, nor
-- has that program with any further constraints
abbrev pub Demand3Trimmed : Type 1
Demand3Trimmed =
    (text proof proof' : List ℕ) (table store table' store' : List ℤ) (n : ℕ)
    → TrimmedProof text proof proof' table store table' store' (Ok n)
    → (ws : List InputRule) × (read_text (length table) text ≡ program ws) × NoneAsWritten ws

-- the text written: of steps that stand in the proof in this order; the check with the same lengths finds it inconsistent and leaves table
-- and store as they are; without any single step it is not accepted
pub record WrittenText (text proof proof' : List ℕ) (table store table' store' : List ℤ) (n : ℕ) : Type 0 where
  pub rules : List InputRule
  pub read : read_text (length table) text ≡ program rules
  pub before : List Step
  pub given : steps_of proof ≡ steps before
  pub left : List Step
  pub order : Sublist left before
  pub written : proof' ≡ text_of left ++ replicate (length proof - n) 0
  pub size : n ≡ length (text_of left)
  pub counts : Counts
  pub checked : check text (take n proof') (length table) (length store) ≡ record { verdict = Inconsistent counts; table = table'; store = store' }
  pub minimal : (front : List Step) (t : Step) (back : List Step) → left ≡ front ++ (t ∷ back) → is_accepted (length store) rules (text_of (front ++ back)) ≡ false

-- "The result is an accepted proof, its steps stand in their old order, and leaving out any single one of them makes it unaccepted. It
-- stands in the lent text, with zero bytes after it."
abbrev pub TrimmedText : Type 0
TrimmedText =
    (text proof proof' : List ℕ) (table store table' store' : List ℤ) (n : ℕ)
    → TrimmedProof text proof proof' table store table' store' (Ok n) → WrittenText text proof proof' table store table' store' n

-- the text written, trimmed with the same lengths, stays as it is, and table and store are left as before
abbrev pub TrimmedTwice : Type 0
TrimmedTwice =
    (text proof proof' : List ℕ) (table store table' store' : List ℤ) (n : ℕ)
    → TrimmedProof text proof proof' table store table' store' (Ok n)
    → TrimmedProof text (take n proof') (take n proof') table store table' store' (Ok n)

-- "handed back untouched with 60 .. a program refusal leaves the text untouched too", and table and store are 0 throughout
abbrev pub Untouched : Type 0
Untouched =
    (text proof proof' : List ℕ) (table store table' store' : List ℤ) (r : TrimAnswer)
    → TrimmedProof text proof proof' table store table' store' r → ((n : ℕ) → ¬ (r ≡ Ok n))
    → (proof' ≡ proof) × ((table' ≡ replicate (length table) (pos 0)) × (store' ≡ replicate (length store) (pos 0)))
