-- The course of a proof: what its steps come to in their turn. Document 01, 'The proof's seven letters' and 'Questions put to the input'.
-- Assumes nothing.
use Rattle.std.specs.Prelude.{Bool, false, cond, List, [], ◌∷◌, ℕ, ◌+◌, leb}
use Rattle.words.specs.Limits.{longest}
use Rattle.aspif.specs.Rules.{Rule, InputRule, expand, atoms}
use Rattle.drupe.specs.Texts.{Step, StepsRead, steps, steps_within}
use Rattle.drupe.specs.Texts as Texts
use Rattle.derivation.specs.States.{State, start}
use Rattle.derivation.specs.Steps.{next, step, empty_live}
use Rattle.derivation.specs.Steps as Steps
use Rattle.nogoods.specs.Store.{Stored, words_for}
use Rattle.steps.specs.After.{stored_after}
use Rattle.drupe.specs.declared.ProofFault.TheVariants.{StoreFull}
use Rattle.drupe.specs.declared.ProofFault.{ProofFault}

-- what the proof comes to: a refusal with its fault and step, or how many steps there were, the state that they left, and what is
-- stored then
pub data Course : Type 0 where
  stopped : (fault : ProofFault) (step : ℕ) → Course
  through : (done : ℕ) (left : State) (stored : List Stored) → Course

-- "The first "no" decides": a line that is refused stops the check where no step before it did
abbrev pub then_stopped : (fault : ProofFault) (step : ℕ) → Course → Course
then_stopped k n (stopped j m) = stopped j m
then_stopped k n (through m z stored) = stopped k n

-- "Do the live words after the step fit the store? 34."
abbrev pub fitting : (size : ℕ) → State → Bool
fitting size z = leb (words_for z.live) size

-- N is the program's largest atom, beside its plain rules P.
module _ (N : ℕ) (P : List Rule) (size : ℕ) where
  -- steps in their turn, after n that left the state z and what is stored: each is accepted, and then it fits
  abbrev pub run_steps : (done : ℕ) → State → List Stored → List Step → Course
  run_steps n z stored [] = through n z stored
  run_steps n z stored (t ∷ ts) =
      elim (step N P z t) [
        | Steps.refused k ↦ stopped k (n + 1)
        | next z' ↦
            cond (fitting size z')
            (run_steps (n + 1) z' (stored_after (n + 1) size t.letter t.numbers stored z') ts)
            (stopped StoreFull (n + 1))
      ]

  -- a text's steps; or those before the line that is refused, and then that refusal
  abbrev pub run_read : (done : ℕ) → State → List Stored → StepsRead → Course
  run_read n z stored (steps ts) = run_steps n z stored ts
  run_read n z stored (Texts.refused before k m) = then_stopped k m (run_steps n z stored before)

-- the proof text's steps, from the start, where question 21 is put with so many bytes as the most
unfoldable pub course_within : (limit N : ℕ) → List Rule → (size : ℕ) → List ℕ → Course
course_within limit N P size text = run_read N P size 0 start [] (steps_within limit text)

-- "At most 65,535 bytes? 21."
abbrev pub course : (N : ℕ) → List Rule → (size : ℕ) → List ℕ → Course
course N P size text = course_within longest N P size text

-- the verdict is "inconsistent"
abbrev pub ends_empty : Course → Bool
ends_empty (stopped k n) = false
ends_empty (through n z stored) = empty_live z

-- document 02, Changes 9 and 10: the proof text is accepted for the rules with a store of so many words
abbrev pub is_accepted : (size : ℕ) → List InputRule → List ℕ → Bool
is_accepted size ws text = ends_empty (course (atoms ws) (expand ws) size text)
