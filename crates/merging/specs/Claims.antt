-- What is claimed of the merge, over lists of steps: "The merged proof is accepted whenever it fits." proofs/Merged.antt proves it,
-- proofs/Sized.antt with question 34, and proofs/AsWritten.antt for programs as they are written.
-- Assumes nothing.
use Rattle.std.specs.Prelude.{◌≡◌, ◌⊎◌, Bool, true, cond, List, [], ◌∷◌, ◌++◌, ℕ, ◌≤◌, ℤ, pos, neg_ℤ}
use Rattle.words.specs.Literals.{complement}
use Rattle.aspif.specs.Rules.{Rule, plain, InputRule, expand, atoms, plain_atoms}
use Rattle.aspif.specs.declared.Kind.TheVariants.{Normal}
use Rattle.drupe.specs.Texts.{Step}
use Rattle.derivation.specs.States.{State, start, is_atom}
use Rattle.derivation.specs.Steps.{Outcome, refused, next, step, steps, empty_live}
use Rattle.derivation.specs.Claims.{NoAnswerSet, NoneAsWritten}
use Rattle.merging.specs.Merge.{demanding, merged, all_fit}
use Rattle.drupe.specs.declared.ProofFault.TheVariants.{StoreFull}

-- "a proof with verdict "inconsistent" (called accepted from here on)", question 34 aside
abbrev pub Accepted : ℕ → List Rule → List Step → Type 0
Accepted N P ts = (z : State) × (steps N P start ts ≡ next z) × (empty_live z ≡ true)

-- "The merged proof is accepted whenever it fits. The split atom must be one of the program's." Of every list of rules, with the atoms
-- 1 to N for any N that is no less than the largest atom of the rules; by demand 3 the program then has no answer set.
abbrev pub MergedAccepted : Type 1
MergedAccepted =
    (N : ℕ) (P : List Rule) → plain_atoms P ≤ N → (v : ℕ) → is_atom N v ≡ true → (first second : List Step)
    → Accepted N (demanding P (pos v)) first → Accepted N (demanding P (neg_ℤ (pos v))) second
    → all_fit (merged N P v first second) ≡ true → Accepted N P (merged N P v first second) × NoAnswerSet P

-- With question 34. `room` tells whether a state's live words fit the store; any test will do.

-- "Do the live words after the step fit the store? 34."
abbrev pub steps_in : (State → Bool) → ℕ → List Rule → State → List Step → Outcome
steps_in room N P z [] = next z
steps_in room N P z (t ∷ ts) =
    elim (step N P z t) [ refused k ↦ refused k | next v ↦ cond (room v) (steps_in room N P v ts) (refused StoreFull) ]

abbrev pub AcceptedIn : (State → Bool) → ℕ → List Rule → List Step → Type 0
AcceptedIn room N P ts = (z : State) × (steps_in room N P start ts ≡ next z) × (empty_live z ≡ true)

-- the steps are accepted with the store, or stopped by 34
abbrev pub InOr34 : (State → Bool) → ℕ → List Rule → List Step → Type 0
InOr34 room N P ts = AcceptedIn room N P ts ⊎ (steps_in room N P start ts ≡ refused StoreFull)

-- halves that are accepted with the store merge into a proof that is accepted with it or stopped by 34, and by nothing else; either
-- way the program has no answer set
abbrev pub MergedIn : Type 1
MergedIn =
    (room : State → Bool) (N : ℕ) (P : List Rule) → plain_atoms P ≤ N → (v : ℕ) → is_atom N v ≡ true → (first second : List Step)
    → AcceptedIn room N (demanding P (pos v)) first → AcceptedIn room N (demanding P (neg_ℤ (pos v))) second
    → all_fit (merged N P v first second) ≡ true → InOr34 room N P (merged N P v first second) × NoAnswerSet P

-- The same for programs as they are written, whose steps are those of the plain rules that they stand for, with N of the rules as
-- written. The added constraint counts as a rule for both.

abbrev pub demanding_as_written : List InputRule → ℤ → List InputRule
demanding_as_written ws x = ws ++ (record { kind = Normal; heads = []; body = plain (complement x ∷ []) } ∷ [])

abbrev pub AcceptedAsWritten : (State → Bool) → List InputRule → List Step → Type 0
AcceptedAsWritten room ws ts = AcceptedIn room (atoms ws) (expand ws) ts

abbrev pub merged_as_written : List InputRule → ℕ → (first second : List Step) → List Step
merged_as_written ws v first second = merged (atoms ws) (expand ws) v first second

abbrev pub MergedAsWritten : Type 1
MergedAsWritten =
    (room : State → Bool) (ws : List InputRule) (v : ℕ) → is_atom (atoms ws) v ≡ true → (first second : List Step)
    → AcceptedAsWritten room (demanding_as_written ws (pos v)) first → AcceptedAsWritten room (demanding_as_written ws (neg_ℤ (pos v))) second
    → all_fit (merged_as_written ws v first second) ≡ true
    → InOr34 room (atoms ws) (expand ws) (merged_as_written ws v first second) × NoneAsWritten ws
