-- What is said of the course, as a statement, which proofs/Lines.antt proves: it is what the proof's lines come to one by one.
-- Assumes nothing.
use Rattle.std.specs.Prelude.{◌≡◌, ◌↔◌, List, [], ℕ, ◌+◌, ◌<◌, ◌≤◌, ℤ, length}
use Rattle.text.specs.declared.Letter.{Letter}
use Rattle.aspif.specs.Rules.{Rule}
use Rattle.drupe.specs.Lines.{end, line, line_at}
use Rattle.drupe.specs.Lines as Lines
use Rattle.derivation.specs.States.{State, start}
use Rattle.derivation.specs.Steps.{next, step}
use Rattle.derivation.specs.Steps as Steps
use Rattle.nogoods.specs.Store.{Stored, words_for}
use Rattle.steps.specs.After.{stored_after}
use Rattle.runs.specs.Course.{Course, stopped, through, course_within}
use Rattle.drupe.specs.declared.ProofFault.TheVariants.{StoreFull}
use Rattle.drupe.specs.declared.ProofFault.{ProofFault}

-- What the proof's lines come to from a position on, after n steps that left the state z and what is stored, with no bound on the
-- turns.
-- "The first "no" decides": `unread` is a line that fails one of questions 22 to 25, `unaccepted` a step that fails one of 26 to
-- 33, `full` a step after which the live words do not fit the store, which is 34, and `good` a step that passes them all.
-- N is the program's largest atom, here and below.
module _ (N : ℕ) (P : List Rule) (size : ℕ) (text : List ℕ) where
  pub data Runs : (at done : ℕ) → State → List Stored → Course → Type 0 where
    ends : {at n : ℕ} {z : State} {b : List Stored} → line_at text at ≡ end → Runs at n z b (through n z b)
    unread : {at n : ℕ} {k : ProofFault} {z : State} {b : List Stored} → line_at text at ≡ Lines.refused k → Runs at n z b (stopped k (n + 1))
    unaccepted : {at n after : ℕ} {k : ProofFault} {z : State} {b : List Stored} {x : Letter} {zs : List ℤ} → line_at text at ≡ line x zs after
        → step N P z (record { letter = x; numbers = zs }) ≡ Steps.refused k → Runs at n z b (stopped k (n + 1))
    full : {at n after : ℕ} {z z' : State} {b : List Stored} {x : Letter} {zs : List ℤ} → line_at text at ≡ line x zs after
        → step N P z (record { letter = x; numbers = zs }) ≡ next z' → size < words_for z'.live
        → Runs at n z b (stopped StoreFull (n + 1))
    good : {at n after : ℕ} {z z' : State} {b : List Stored} {x : Letter} {zs : List ℤ} {c : Course}
        → line_at text at ≡ line x zs after → step N P z (record { letter = x; numbers = zs }) ≡ next z' → words_for z'.live ≤ size
        → Runs after (n + 1) z' (stored_after (n + 1) size x zs b z') c → Runs at n z b c

-- The course of a proof text that passes 21 is what its lines come to from the start, and nothing else, whatever the limit.
abbrev pub StepByStep : Type 0
StepByStep =
    (limit N : ℕ) (P : List Rule) (size : ℕ) (text : List ℕ) (c : Course) → length text ≤ limit
    → (course_within limit N P size text ≡ c) ↔ Runs N P size text 0 0 start [] c

-- So it is the same under any two limits that the text is within.
abbrev pub SameCourseWithin : Type 0
SameCourseWithin =
    (limit other N : ℕ) (P : List Rule) (size : ℕ) (text : List ℕ) → length text ≤ limit → length text ≤ other
    → course_within limit N P size text ≡ course_within other N P size text
