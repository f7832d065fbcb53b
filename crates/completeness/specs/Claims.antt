-- Completeness, as statements: source document 000, Theorem 1, "P is inconsistent if and only if there is an ASP-DRUPE proof for P". There the
-- definitions of all bodies are live at the start; here `b` lines add them. Complete.antt, Exact.antt, AsRead.antt, Limits.antt and Cycles.antt of
-- proofs/ prove them, Examples.antt beside this has them at work. Nothing is said of how many lines a derivation has, nor, with that, of questions
-- 21 and 34, which ask of a whole text and of the store and are not put to steps.
-- Assumes nothing.
use Rattle.std.specs.Prelude.{◌≡◌, ◌⊎◌, Bool, true, false, cond, List, [], ◌∷◌, ℕ, suc, ◌+◌, ◌≤◌, ◌<◌, T, ℤ, pos, length}
use Rattle.std.proofs.Math.Option.{some}
use Rattle.words.specs.Lists.{◌∈◌, filter, ascends}
use Rattle.words.specs.Limits.{largest, most_literals, most_numbers}
use Rattle.words.specs.Literals.{variable, has, distinct, rising}
use Rattle.text.specs.declared.Letter.{Letter}
use Rattle.text.specs.declared.Letter.TheVariants.{Addition, Body, Completion, Deletion, Extension, Loop, Support}
use Rattle.aspif.specs.Rules.{Rule, InputRule, expand, atoms}
use Rattle.aspif.specs.Tables.{rules_of}
use Rattle.aspif.specs.declared.Kind.TheVariants.{Normal}
use Rattle.aspif.specs.AnswerSets.{AnswerSet}
use Rattle.drupe.specs.Lines.{signs_of, is_positive, signed}
use Rattle.drupe.specs.Texts.{Step}
use Rattle.derivation.specs.States.{State, start}
use Rattle.derivation.specs.Claims.{NoAnswerSet, NoneAsWritten}
use Rattle.derivation.specs.Steps.{Outcome, refused, next, by_letter, steps, empty_live}
use Rattle.drupe.specs.declared.ProofFault.TheVariants.{Malformed, WrongSigns, RepeatedVariable}

-- A step with question 23, of the sizes and the count of a line's numbers, not put: 22, 24, 25 and those by letter
abbrev pub free_step : ℕ → List Rule → State → Step → Outcome
free_step N P z t =
    cond (has (pos 0) t.numbers) (refused Malformed)
    (cond (signed (signs_of t.letter) t.numbers)
    (cond (distinct t.numbers) (by_letter N P z t.letter t.numbers) (refused RepeatedVariable))
    (refused WrongSigns))

-- "Each step gets all three as the one before left them"
abbrev pub free_steps : ℕ → List Rule → State → List Step → Outcome
free_steps N P z [] = next z
free_steps N P z (t ∷ ts) = elim (free_step N P z t) [ refused k ↦ refused k | next z' ↦ free_steps N P z' ts ]

-- What a reader leaves of a program, as far as it is used: heads and body literals name atoms 1 to N, heads are positive, a normal rule has
-- at most one head, bodies ascend by variable, so that none names an atom twice
pub record WellFormed (N : ℕ) (P : List Rule) : Type 0 where
  pub heads : (r : Rule) → r ∈ P → (h : ℤ) → h ∈ r.heads → T (is_positive h) × (variable h ≤ N)
  pub single : (r : Rule) → r ∈ P → r.kind ≡ Normal → length r.heads ≤ 1
  pub literals : (r : Rule) → r ∈ P → (x : ℤ) → x ∈ r.body → (1 ≤ variable x) × (variable x ≤ N)
  pub bodies : (r : Rule) → r ∈ P → rising r.body ≡ true

-- an answer set, as an ascending list of atoms
abbrev pub Answer : ℕ → List Rule → Type 0
Answer N P = (l : List ℕ) × (ascends 0 N l ≡ true) × AnswerSet (λ n. n ∈ l) P

-- Steps that are accepted, each in its turn, with the empty nogood live after the last: "an ASP-DRUPE proof for the inconsistency of P if it actually
-- derives inconsistency". Of any of the seven letters, and numbers of any size and count.
abbrev pub Refutes : ℕ → List Rule → List Step → Type 0
Refutes N P ts = (z : State) × (free_steps N P start ts ≡ next z) × (empty_live z ≡ true)

-- a line's numbers have sizes up to `size`, and there are up to `count`
abbrev pub Within : (size count : ℕ) → Step → Type 0
Within size count t = ((x : ℤ) → x ∈ t.numbers → variable x ≤ size) × (length t.numbers ≤ count)

-- the rules that have the head h
abbrev pub rules_for : List Rule → ℤ → List Rule
rules_for P h = filter (λ r. has h r.heads) P

-- n numbers are at most as many as there are atoms (`a` and `l`); or a body's name and a head (`c`); or one more than a body has literals (`b`);
-- or one more than a head has rules (`s`)
pub data Short (N : ℕ) (P : List Rule) (n : ℕ) : Type 0 where
  by-atoms : n ≤ N → Short N P n
  by_name : n ≤ 2 → Short N P n
  by-body : (r : Rule) → r ∈ P → n ≤ suc (length r.body) → Short N P n
  by-head : (h : ℤ) → n ≤ suc (length (rules_for P h)) → Short N P n

-- the letters that completeness needs: neither deletions nor extensions
abbrev pub is_needed : Letter → Bool
is_needed Addition = true
is_needed Body = true
is_needed Completion = true
is_needed Deletion = false
is_needed Extension = false
is_needed Loop = true
is_needed Support = true

-- a line of a derivation that is found: it is none of `d` and `e`, no number is above the atoms and the rules together, and there are few
abbrev pub Sized : ℕ → List Rule → Step → Type 0
Sized N P t =
    T (is_needed t.letter) × ((x : ℤ) → x ∈ t.numbers → variable x ≤ N + length P) × Short N P (length t.numbers)

-- such steps as they are found
pub record Refutation (N : ℕ) (P : List Rule) : Type 0 where
  pub lines : List Step
  pub refutes : Refutes N P lines
  pub sized : (t : Step) → t ∈ lines → Sized N P t

-- For every program one or the other is found: the proof computes it
abbrev pub Complete : Type 0
Complete = (N : ℕ) (P : List Rule) → WellFormed N P → Answer N P ⊎ Refutation N P

-- and never both: where no set of numbers is an answer set, which is the first half of `NoAnswerSet`, a derivation is found; and where any derivation
-- is accepted `NoAnswerSet` holds, its half on further constraints too. The sets are any predicates, decidable or not.
abbrev pub Exact : Type 1
Exact =
    (N : ℕ) (P : List Rule) → WellFormed N P
    → (((M : ℕ → Type 0) → AnswerSet M P → ⊥) → Refutation N P) × ((ts : List Step) → Refutes N P ts → NoAnswerSet P)

-- Programs that a table holds: "the rules as written", weight bodies too, and the plain rules that they stand for

-- these are well formed
abbrev pub ReadWellFormed : Type 0
ReadWellFormed = (table : List ℤ) (rules : ℕ) (ws : List InputRule) → rules_of table rules ≡ some ws → WellFormed (atoms ws) (expand ws)

-- so that one or the other is found, and never both, with further constraints as they are written
abbrev pub ExactAsRead : Type 1
ExactAsRead =
    (table : List ℤ) (rules : ℕ) (ws : List InputRule) → rules_of table rules ≡ some ws
    → (Answer (atoms ws) (expand ws) ⊎ Refutation (atoms ws) (expand ws))
    × ((ts : List Step) → Refutes (atoms ws) (expand ws) ts → NoneAsWritten ws)

-- Question 23

-- where each line passes it, both say the same
abbrev pub SameSteps : Type 0
SameSteps =
    (N : ℕ) (P : List Rule) (z : State) (ts : List Step) → ((t : Step) → t ∈ ts → Within largest most_numbers t)
    → steps N P z ts ≡ free_steps N P z ts

-- and what is accepted where it is put is accepted where it is not
abbrev pub AcceptedFree : Type 0
AcceptedFree =
    (N : ℕ) (P : List Rule) (z after : State) (ts : List Step) → steps N P z ts ≡ next after → free_steps N P z ts ≡ next after

-- an accepted derivation where it is put
abbrev pub Accepted : ℕ → List Rule → Type 0
Accepted N P = (ts : List Step) × (z : State) × (steps N P start ts ≡ next z) × (empty_live z ≡ true)

-- with at most 65 atoms, and at most 64 plain rules for a head and 64 literals in a body, every line of the one that is found passes it, as long as
-- atoms and plain rules together are at most the largest variable
abbrev pub CompleteWithin : Type 0
CompleteWithin =
    (N : ℕ) (P : List Rule) → WellFormed N P → N ≤ most_numbers → N + length P ≤ largest
    → ((r : Rule) → r ∈ P → length r.body ≤ most_literals) → ((h : ℤ) → length (rules_for P h) ≤ most_literals)
    → Answer N P ⊎ Accepted N P

-- of a program that a table holds, whose bodies are that short
abbrev pub CompleteReadWithin : Type 0
CompleteReadWithin =
    (table : List ℤ) (rules : ℕ) (ws : List InputRule) → rules_of table rules ≡ some ws
    → atoms ws ≤ most_numbers → atoms ws + length (expand ws) ≤ largest → ((h : ℤ) → length (rules_for (expand ws) h) ≤ most_literals)
    → Answer (atoms ws) (expand ws) ⊎ Accepted (atoms ws) (expand ws)

-- and for each count of atoms above 65 there is a program without answer sets of which no derivation is accepted, of any letters and any length
abbrev pub Incomplete : Type 1
Incomplete =
    (n : ℕ) → most_numbers < n
    → (P : List Rule) × WellFormed n P × ((M : ℕ → Type 0) → AnswerSet M P → ⊥) × (Accepted n P → ⊥)
