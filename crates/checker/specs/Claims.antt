-- What the whole check says, as statements; proofs/Whole.antt, proofs/Origins.antt and proofs/Late.antt prove them: demand 2 of the
-- notice, demand 3, part two, what is said of origins, also of the functions `check_texts` and `check_long` by their contracts, and that marking first and
-- closing up later changes no live nogood. That the steps are what the proof's lines come to one by one is `StepByStep` of `runs`.
-- Assumes nothing.
use Rattle.std.specs.Prelude.{◌≡◌, ◌↔◌, ◌⊎◌, Bool, true, false, cond, List, [], ◌∷◌, ◌++◌, ℕ, ◌+◌, ◌≤◌, ℤ, pos, neg_ℤ, length, take, get_or, set}
use Rattle.words.specs.Lists.{◌∈◌, drop_first}
use Rattle.words.specs.Literals.{same_list, ascending}
use Rattle.text.specs.declared.Letter.{Letter}
use Rattle.text.specs.declared.Letter.TheVariants.{Addition, Body, Completion, Deletion, Extension, Loop, Support}
use Rattle.aspif.specs.Rules.{Rule, InputRule, expand, atoms}
use Rattle.aspif.specs.Reading.{program, read_text}
use Rattle.drupe.specs.Texts.{Step, StepsRead, text_of, steps, steps_within}
use Rattle.drupe.specs.Texts as Texts
use Rattle.derivation.specs.States.{State, start}
use Rattle.derivation.specs.Steps.{next, step, empty_live}
use Rattle.derivation.specs.Steps as Steps
use Rattle.derivation.specs.Claims.{NoneAsWritten}
use Rattle.nogoods.specs.Store.{Stored, closed, live, words_of, store_words}
use Rattle.steps.specs.After.{new_in, stored_after}
use Rattle.runs.specs.Course.{Course, stopped, through, then_stopped, fitting, run_steps, course_within}
use Rattle.checker.specs.Check.{counts_of, judged, check_within, CheckedWithin}
use Rattle.checker.specs.declared.Counts.{Counts}
use Rattle.checker.specs.declared.Verdict.{Verdict}
use Rattle.checker.specs.declared.Verdict.TheVariants.{Inconsistent, Open}
use Rattle.drupe.specs.declared.ProofFault.TheVariants.{StoreFull}

-- The proof text's steps are ts, they run through, and after the last the empty nogood is live, or is not; the counts are those of
-- the program, the steps and the live nogoods.
abbrev pub Ended : (limit : ℕ) → List InputRule → (size : ℕ) → (proof : List ℕ) → (empty : Bool) → Counts → Type 0
Ended limit ws size proof empty c =
    (ts : List Step) × (z : State) × (stored : List Stored) × (steps_within limit proof ≡ steps ts)
    × (run_steps (atoms ws) (expand ws) size 0 start [] ts ≡ through (length ts) z stored)
    × (empty_live z ≡ empty) × (c ≡ counts_of (atoms ws) (length ws) (length ts) z)

-- What `Ended` says, in the words of a writer: the proof is the text of the steps ts, and no reader is spoken of. That each step passes
-- 22 to 25 need not be said, since a step that is accepted does.
abbrev pub Written : (limit : ℕ) → List InputRule → (size : ℕ) → (proof : List ℕ) → (empty : Bool) → Counts → Type 0
Written limit ws size proof empty c =
    (ts : List Step) × (z : State) × (stored : List Stored) × (proof ≡ text_of ts) × (length proof ≤ limit)
    × (run_steps (atoms ws) (expand ws) size 0 start [] ts ≡ through (length ts) z stored)
    × (empty_live z ≡ empty) × (c ≡ counts_of (atoms ws) (length ws) (length ts) z)

abbrev pub EndedWritten : Type 0
EndedWritten =
    (limit : ℕ) (ws : List InputRule) (size : ℕ) (proof : List ℕ) (empty : Bool) (c : Counts)
    → Ended limit ws size proof empty c ↔ Written limit ws size proof empty c

-- "Once the program is read, the verdict is "inconsistent" exactly when the steps form an ASP-DRUPE proof under document 01 that
-- fits the lent store, and "open" exactly when every step is good but the empty nogood does not stand after the last."
abbrev pub VerdictExact : Type 0
VerdictExact =
    (limit : ℕ) (text proof : List ℕ) (t s : ℕ) (ws : List InputRule) → read_text t text ≡ program ws → (c : Counts)
    → (((check_within limit text proof t s).verdict ≡ Inconsistent c) ↔ Ended limit ws s proof true c)
    × (((check_within limit text proof t s).verdict ≡ Open c) ↔ Ended limit ws s proof false c)

-- "So wherever the whole check says "inconsistent", whatever the two texts, the table and the store it was lent, the same is
-- true of the program it read": "no set of atoms is an answer set of that program. Nor is any set an answer set of that program
-- with any list of further constraints appended, over old atoms or new." The program is as written, and so are the constraints.
abbrev pub SoundWhole : Type 1
SoundWhole =
    (limit : ℕ) (text proof : List ℕ) (t s : ℕ) (c : Counts)
    → (check_within limit text proof t s).verdict ≡ Inconsistent c
    → (ws : List InputRule) × (read_text t text ≡ program ws) × NoneAsWritten ws

-- Demand 2 of the functions `check_texts` and `check_long`, by their contracts, whatever the texts, the table and the store that are lent: once the
-- program is read, it answers "inconsistent" exactly when the steps form such a proof, and "open" exactly when every step is good but
-- the empty nogood does not stand after the last.
abbrev pub ServiceExact : Type 0
ServiceExact =
    (limit : ℕ) (text proof : List ℕ) (table store table' store' : List ℤ) (r : Verdict)
    → CheckedWithin limit text proof table store table' store' r
    → (ws : List InputRule) → read_text (length table) text ≡ program ws → (c : Counts)
    → ((r ≡ Inconsistent c) ↔ Ended limit ws (length store) proof true c) × ((r ≡ Open c) ↔ Ended limit ws (length store) proof false c)

-- Demand 3 of the functions `check_texts` and `check_long`, by their contracts, whatever the texts, the table and the store that are lent:
-- where "inconsistent" is answered, no set is an answer set of the program that it read, nor of that program with any further constraints.
abbrev pub ServiceSound : Type 1
ServiceSound =
    (limit : ℕ) (text proof : List ℕ) (table store table' store' : List ℤ) (c : Counts)
    → CheckedWithin limit text proof table store table' store' (Inconsistent c)
    → (ws : List InputRule) × (read_text (length table) text ≡ program ws) × NoneAsWritten ws

-- A proof within two limits gets the same answer and leaves the same words under both: on proof texts of at most 65,535 bytes
-- `check_texts` and `check_long` say the same.
abbrev pub SameWithin : Type 0
SameWithin =
    (limit other : ℕ) (text proof : List ℕ) (t s : ℕ) → length proof ≤ limit → length proof ≤ other
    → check_within limit text proof t s ≡ check_within other text proof t s

-- Origins. N is the program's largest atom, here and below.

-- what holds after every list of steps that run through: of how many there were, the state that they left and what is stored then
abbrev pub AfterSteps : (ℕ → State → List Stored → Type 0) → Type 0
AfterSteps C =
    (N : ℕ) (P : List Rule) (size : ℕ) (ts : List Step) (n : ℕ) (z : State) (stored : List Stored)
    → run_steps N P size 0 start [] ts ≡ through n z stored → C n z stored

-- The literals of what is stored and not dead are the live nogoods, in their order. What is said of K, of the empty nogood and of
-- `a` is said of the store by this.
abbrev pub LiveStored : Type 0
LiveStored = AfterSteps (λ n z stored. live stored ≡ z.live)

-- "An origin is never 0 or above the steps done.", dead or live
abbrev pub Bounded : (done : ℕ) → List Stored → Type 0
Bounded n stored = (e : Stored) → e ∈ stored → (1 ≤ e.origin) × (e.origin ≤ n)

abbrev pub OriginsBounded : Type 0
OriginsBounded = AfterSteps (λ n z stored. Bounded n stored)

-- no origin is below the one before it: "oldest first" can be read off the store
abbrev pub Rising : (least : ℕ) → List Stored → Type 0
Rising m [] = Unit
Rising m (e ∷ stored) = (m ≤ e.origin) × Rising e.origin stored

abbrev pub OriginsRise : Type 0
OriginsRise = AfterSteps (λ n z stored. Rising 1 stored)

-- The store that `check_texts` and `check_long` leave, by their contracts, where the answer is "inconsistent" or "open": the words of stored
-- nogoods, of which as many are live as it tells, with origins that rise from 1 to no more than the steps that it tells.
abbrev pub OriginsService : Type 0
OriginsService =
    (limit : ℕ) (text proof : List ℕ) (table store table' store' : List ℤ) (r : Verdict)
    → CheckedWithin limit text proof table store table' store' r
    → (c : Counts) → (r ≡ Inconsistent c) ⊎ (r ≡ Open c)
    → (stored : List Stored) × (store' ≡ store_words (length store) stored) × (length (live stored) ≡ c.nogoods)
    × Bounded c.steps stored × Rising 1 stored

-- Mark first, close up later

-- The earlier store: a deletion takes its nogood out at once, and nothing is ever dead. What it has after step n.
abbrev pub prompt_after : (n : ℕ) → Letter → List ℤ → (before : List Stored) → State → List Stored
prompt_after n Addition zs before z = before ++ new_in n before z
prompt_after n Body zs before z = before ++ new_in n before z
prompt_after n Completion zs before z = before ++ new_in n before z
prompt_after n Deletion zs before z = drop_first (λ e. same_list e.literals (ascending zs)) before
prompt_after n Extension zs before z = before ++ new_in n before z
prompt_after n Loop zs before z = before ++ new_in n before z
prompt_after n Support zs before z = before ++ new_in n before z

-- what the steps come to with it
module _ (N : ℕ) (P : List Rule) (size : ℕ) where
  abbrev pub prompt_steps : (done : ℕ) → State → List Stored → List Step → Course
  prompt_steps n z stored [] = through n z stored
  prompt_steps n z stored (t ∷ ts) =
      elim (step N P z t) [
        | Steps.refused k ↦ stopped k (n + 1)
        | next z' ↦
            cond (fitting size z')
            (prompt_steps (n + 1) z' (prompt_after (n + 1) t.letter t.numbers stored z') ts)
            (stopped StoreFull (n + 1))
      ]

  abbrev pub prompt_read : StepsRead → Course
  prompt_read (steps ts) = prompt_steps 0 start [] ts
  prompt_read (Texts.refused before k m) = then_stopped k m (prompt_steps 0 start [] before)

-- "The sequence of live nogoods, read past the dead, equals that of the earlier store after every list of steps": with origins, and
-- whatever the store's length
abbrev pub SameLive : Type 0
SameLive =
    (N : ℕ) (P : List Rule) (size : ℕ) (ts : List Step) (n : ℕ) (z : State) (stored : List Stored)
    → run_steps N P size 0 start [] ts ≡ through n z stored → prompt_steps N P size 0 start [] ts ≡ through n z (closed stored)

-- Verdict, counts and refusals are those of the earlier store. "Question 34 still counts live words only."
abbrev pub SameCourse : Type 0
SameCourse =
    (limit t size : ℕ) (ws : List InputRule) (proof : List ℕ)
    → (judged t size ws (course_within limit (atoms ws) (expand ws) size proof)).verdict
    ≡ (judged t size ws (prompt_read (atoms ws) (expand ws) size (steps_within limit proof))).verdict

-- j is the place of an origin word of what is stored
abbrev pub OriginPlace : List Stored → (j : ℕ) → Type 0
OriginPlace stored j =
    (done : List Stored) × (it : Stored) × (rest : List Stored) × (stored ≡ done ++ (it ∷ rest)) × (length (words_of done) ≡ j)

-- A deletion: "its origin word is negated and no other word changes"
abbrev pub OneWord : Type 0
OneWord =
    (n size : ℕ) (zs : List ℤ) (before : List Stored) (z : State)
    → let s = store_words size before in let s' = store_words size (stored_after n size Deletion zs before z) in
    (s' ≡ s) ⊎ ((j : ℕ) × OriginPlace before j × (s' ≡ set s j (neg_ℤ (get_or s j (pos 0)))))

-- where the words of a step that adds nogoods fit behind the used ones, the used words stay as they are
abbrev pub ClosedLate : Type 0
ClosedLate =
    (n size : ℕ) (x : Letter) (zs : List ℤ) (before : List Stored) (z : State) → ¬ (x ≡ Deletion)
    → length (words_of before) + length (words_of (new_in n before z)) ≤ size
    → take (length (words_of before)) (store_words size (stored_after n size x zs before z)) ≡ words_of before
