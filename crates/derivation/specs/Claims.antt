-- Demand 3 of the notice, part one, as statements; Sound.antt, AsWritten.antt, Closure.antt and Loops.antt of proofs/ prove them.
-- Assumes nothing.
use Rattle.std.specs.Prelude.{◌≡◌, ◌↔◌, true, List, [], ◌++◌, ℕ, ◌≤◌, ℤ}
use Rattle.words.specs.Lists.{◌∈◌}
use Rattle.aspif.specs.Rules.{Rule, InputRule, expand, atoms, plain_atoms}
use Rattle.aspif.specs.declared.Kind.TheVariants.{Normal}
use Rattle.aspif.specs.AnswerSets.{Constraint, AnswerSet}
use Rattle.derivation.specs.Propagation.{Conflict, refuted}
use Rattle.derivation.specs.Loops.{Loop, is_loop}
use Rattle.derivation.specs.States.{State, start}
use Rattle.drupe.specs.Texts.{Step}
use Rattle.derivation.specs.Steps.{next, steps, empty_live}

-- "no set of atoms is an answer set of that program. Nor is any set an answer set of that program with any list of further
-- constraints appended": a set is any predicate on numbers, and a further constraint has any literals, also above N, above the
-- largest variable, or taken as names by the proof
abbrev pub NoAnswerSet : List Rule → Type 1
NoAnswerSet P =
    ((M : ℕ → Type 0) → AnswerSet M P → ⊥)
    × ((further : List Rule) → ((r : Rule) → r ∈ further → Constraint r)
    → (M : ℕ → Type 0) → AnswerSet M (P ++ further) → ⊥)

-- "For every program read and every list of steps of the seven letters from an empty store .. if every step is accepted in its
-- turn and the empty nogood is live after the last": of every list of rules, read or not, with the atoms 1 to N for any N that
-- is no less than the largest atom of the rules
abbrev pub Sound : Type 1
Sound =
    (N : ℕ) (P : List Rule) → plain_atoms P ≤ N → (ts : List Step) (z : State)
    → steps N P start ts ≡ next z → empty_live z ≡ true → NoAnswerSet P

-- The same for programs as they are written, whose answer sets are those of the plain rules that they stand for. A further constraint
-- may be one with a weight body.
abbrev pub WrittenConstraint : InputRule → Type 0
WrittenConstraint r = (r.kind ≡ Normal) × (r.heads ≡ [])

abbrev pub NoneAsWritten : List InputRule → Type 1
NoneAsWritten ws =
    ((M : ℕ → Type 0) → AnswerSet M (expand ws) → ⊥)
    × ((further : List InputRule) → ((r : InputRule) → r ∈ further → WrittenConstraint r)
    → (M : ℕ → Type 0) → AnswerSet M (expand (ws ++ further)) → ⊥)

abbrev pub SoundAsWritten : Type 1
SoundAsWritten =
    (ws : List InputRule) (ts : List Step) (z : State)
    → steps (atoms ws) (expand ws) start ts ≡ next z → empty_live z ≡ true → NoneAsWritten ws

-- the computation of an `a` step says what the least set says
abbrev pub ClosureComputed : Type 0
ClosureComputed = (live : List (List ℤ)) (L : List ℤ) → (refuted live L ≡ true) ↔ Conflict live L

-- question 56 of an `l` step says what a loop is
abbrev pub LoopComputed : Type 0
LoopComputed = (P : List Rule) (U : List ℤ) → (is_loop P U ≡ true) ↔ Loop P U
