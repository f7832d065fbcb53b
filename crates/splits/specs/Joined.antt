-- What the private functions that join the lines of the halves to one text leave. No reader of a public contract needs it.
-- Assumes nothing.
use Rattle.std.specs.Prelude.{◌≡◌, ◌⊎◌, true, false, cond, List, [], ◌++◌, ℕ, ◌-◌, Option, Some, None, ltb, ℤ, length, replicate, Result, Ok, Err}
use Rattle.text.specs.declared.Letter.TheVariants.{Addition}
use Rattle.aspif.specs.Rules.{Rule, InputRule}
use Rattle.drupe.specs.Texts.{Step, text_of}
use Rattle.derivation.specs.States.{is_atom}
use Rattle.steps.specs.Held.{Program}
use Rattle.merging.specs.Merge.{is_body, half, one}
use Rattle.renaming.specs.Standing.{is_constraint, HalfOf}
use Rattle.splits.specs.Service.{are_halves, merged_steps, is_writable}
use Rattle.splits.specs.Halves.{HalvesLeft}
use Rattle.splits.specs.declared.texts.Added.{Added}
use Rattle.splits.specs.declared.MergeFault.TheVariants.{NotAccepted, NotWritable}
use Rattle.splits.specs.declared.MergeFault.{MergeFault}

-- what the program has of the constraint with the body L
pub record AddedTo (P : List Rule) (L : List ℤ) (a : Added) : Type 0 where
  pub body : a.body ≡ is_body P L
  pub constraint : a.constraint ≡ is_constraint P L

-- 57 and 58 of the halves of ws with a store of so many words; where both pass, the output holds the merged text and 0 after it
module _ (size : ℕ) (ws : List InputRule) (v : ℕ) (first second : List ℕ) where
  abbrev pub WrittenBy : (output : List ℕ) → Result ℕ MergeFault → Type 0
  WrittenBy output (Ok n) =
      (are_halves size ws v first second ≡ true) × (is_writable (length output) (merged_steps ws v first second) ≡ true)
      × ((n ≡ length (text_of (merged_steps ws v first second)))
      × (output ≡ text_of (merged_steps ws v first second) ++ replicate (length output - n) 0))
  WrittenBy output (Err k) =
      ((k ≡ NotAccepted) × (are_halves size ws v first second ≡ false))
      ⊎ ((k ≡ NotWritable) × (are_halves size ws v first second ≡ true) × (is_writable (length output) (merged_steps ws v first second) ≡ false))

-- the answer by what was written into an output of so many bytes
abbrev pub written_in : (size : ℕ) → Option ℕ → Result ℕ MergeFault
written_in size (Some end) = cond (ltb size end) (Err NotWritable) (Ok end)
written_in size None = Err NotWritable

-- a half's text, with what is told of its constraint: of some program, some bodies that the other half names, and some steps
pub record HalfText (text : List ℕ) (x : ℤ) (shared : List ℕ) (a : Added) : Type 0 where
  pub N : ℕ
  pub P : List Rule
  pub bodies : List (List ℤ)
  pub ts : List Step
  pub is : HalfOf text x shared a.body a.constraint N P bodies ts

-- its lines under new names
abbrev pub lines_of : {text : List ℕ} {x : ℤ} {shared : List ℕ} {a : Added} → HalfText text x shared a → (ℕ → ℕ) → List Step
lines_of {x = x} h f = half h.P x f h.bodies [] h.ts

-- "A closing `a 0` ends it."
abbrev pub closing : List Step
closing = one Addition []

-- the program in the table, with the atoms 1 to N, and what stays of its halves, which are accepted
pub record HalvesHeld (table : List ℤ) (rules N v : ℕ) (first second known₁ known₂ names : List ℕ) (bodies : List ℤ) : Type 0 where
  pub ws : List InputRule
  pub size : ℕ
  pub program : Program table rules N ws
  pub atom : is_atom N v ≡ true
  pub left : HalvesLeft N size ws v first second known₁ known₂ names bodies
