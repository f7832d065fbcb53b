-- What private functions cite, and no reader of a public contract needs: what a line leaves, and what all of them leave.
-- Assumes nothing.
use Rattle.std.specs.Prelude.{◌≡◌, List, ℕ, ℤ, Option, None, Some, Result, Ok, Err}
use Rattle.aspif.specs.Rules.{InputRule, expand}
use Rattle.drupe.specs.Lines.{LineAt, end, line}
use Rattle.drupe.specs.Lines as Lines
use Rattle.derivation.specs.States.{State}
use Rattle.derivation.specs.Steps.{Outcome, step}
use Rattle.nogoods.specs.Keeps.{Holds}
use Rattle.nogoods.specs.Store.{Stored}
use Rattle.steps.specs.After.{stored_after}
use Rattle.runs.specs.Course.{Course, stopped, through}
use Rattle.drupe.specs.declared.ProofFault.{ProofFault}
use Rattle.runs.specs.declared.ProofRefusal.{ProofRefusal}
use Rattle.runs.specs.declared.StepTaken.{StepTaken}
use Rattle.runs.specs.declared.StepsTaken.{StepsTaken}
use Rattle.steps.specs.Held.{Tracks, Leaves}

-- what a step comes to, with the position after its line
abbrev pub proof_turn : ℕ → Result ℕ ProofFault → Result (Option StepTaken) ProofFault
proof_turn at (Ok n) = Ok (Some (record { next = at; used = n }))
proof_turn at (Err k) = Err k

module _ (N : ℕ) (ws : List InputRule) (known names : List ℕ) (bodies store : List ℤ) (index : List ℕ) where
  -- what the step of a line leaves, with the position after the line
  abbrev pub StepLeaves : ℕ → (after : State → List Stored) → Outcome → Result (Option StepTaken) ProofFault → Type 0
  StepLeaves at after o r = (s : Result ℕ ProofFault) × (r ≡ proof_turn at s) × Leaves N ws after known names bodies store index o s

  -- what one turn of the check leaves, by what stands at the position; so many words were used, and its step is step n in a store
  -- of the size given
  abbrev pub LineLeaves : (used n size : ℕ) → State → List Stored → LineAt → Result (Option StepTaken) ProofFault → Type 0
  LineLeaves used n size z stored end r = (r ≡ Ok None) × Holds store used stored × Tracks N ws known names bodies z.introduced z.named
  LineLeaves used n size z stored (Lines.refused k) r = r ≡ Err k
  LineLeaves used n size z stored (line x zs at) r =
      StepLeaves at (stored_after n size x zs stored) (step N (expand ws) z (record { letter = x; numbers = zs })) r

-- what the lines leave, by what they come to
abbrev pub Ran : List ℤ → Course → Result StepsTaken ProofRefusal → Type 0
Ran store (stopped k n) r = r ≡ Err (record { fault = k; step = n })
Ran store (through n z stored) r = (used : ℕ) × (r ≡ Ok (record { steps = n; used = used })) × Holds store used stored

-- the arrays at the end of lines that all pass: they hold the state that is left
abbrev pub Ended : (N : ℕ) → List InputRule → (known names : List ℕ) → List ℤ → Course → Type 0
Ended N ws known names bodies (stopped k n) = Unit {0}
Ended N ws known names bodies (through n z stored) = Tracks N ws known names bodies z.introduced z.named
