-- The course of a proof text is what its lines come to one by one.
-- Assumes nothing.
use mathlib.Core.Path.{◌≡◌, refl, sym, ◌∙◌, ap, subst}
use mathlib.Core.Bool.{Bool, true, false, cond}
use mathlib.Core.List.{List, []}
use Prim.Native.Nat.{ℕ, zero, suc, ◌+◌, ◌<◌, ◌≤◌}
use native.Mathlib.Omega.{arith}
use lib.IntN.{ℤ}
use lib.ListN.{length}
use borrow.Author.Tests.{le-leb, lt-leb, leb-true, leb-false}
use Rattle.text.specs.declared.Letter.{Letter}
use Rattle.aspif.specs.Rules.{Rule}
use Rattle.drupe.specs.Lines.{LineAt, end, line, line_at}
use Rattle.drupe.specs.Lines as Lines
use Rattle.drupe.proofs.Lines.{passed-line}
use Rattle.derivation.specs.States.{State, start}
use Rattle.drupe.specs.Texts.{Step, StepsRead, steps, refused, after, steps_at}
use Rattle.drupe.proofs.Texts.{all_steps, short-steps, same-within}
use Rattle.derivation.specs.Steps.{Outcome, next, step}
use Rattle.derivation.specs.Steps as Steps
use Rattle.nogoods.specs.Store.{Stored, words_for}
use Rattle.steps.specs.After.{stored_after}
use Rattle.runs.specs.Course.{Course, stopped, then_stopped, fitting, run_steps, run_read, course_within}
use Rattle.runs.specs.Claims.{Runs, ends, unread, unaccepted, full, good, StepByStep, SameCourseWithin}
use Rattle.drupe.specs.declared.ProofFault.TheVariants.{StoreFull}

-- what is stored once step t, the next after n, left the state z
abbrev pub stored_next : (size n : ℕ) → List Stored → Step → State → List Stored
stored_next size n b t z = stored_after (n + 1) size t.letter t.numbers b z

module _ (N : ℕ) (P : List Rule) (size : ℕ) where
  -- what a step comes to; `on` goes on with the state that it left
  abbrev step_then : (State → Course) → ℕ → Outcome → Course
  step_then on n (Steps.refused k) = stopped k (n + 1)
  step_then on n (next z) = cond (fitting size z) (on z) (stopped StoreFull (n + 1))

  -- the course of a step and of those that were read after it
  pub run-after : (n : ℕ) (z : State) (b : List Stored) (t : Step) (o : StepsRead)
      → run_read N P size n z b (after t o) ≡ step_then (λ z'. run_read N P size (n + 1) z' (stored_next size n b t z') o) n (step N P z t)
  run-after n z b t (steps ts) = by (step N P z t)
    where
      by : (o : Outcome) → elim o [
        | Steps.refused k ↦ stopped k (n + 1)
        | next z' ↦ cond (fitting size z') (run_steps N P size (n + 1) z' (stored_next size n b t z') ts) (stopped StoreFull (n + 1))
      ] ≡ step_then (λ z'. run_steps N P size (n + 1) z' (stored_next size n b t z') ts) n o
      by (Steps.refused k) = refl
      by (next z') = refl
  run-after n z b t (refused ts k m) = by (step N P z t)
    where
      fits : (b : Bool) (c : Course) → then_stopped k m (cond b c (stopped StoreFull (n + 1))) ≡ cond b (then_stopped k m c) (stopped StoreFull (n + 1))
      fits true c = refl
      fits false c = refl

      by : (o : Outcome) → then_stopped k m (elim o [
        | Steps.refused j ↦ stopped j (n + 1)
        | next z' ↦ cond (fitting size z') (run_steps N P size (n + 1) z' (stored_next size n b t z') ts) (stopped StoreFull (n + 1))
      ]) ≡ step_then (λ z'. then_stopped k m (run_steps N P size (n + 1) z' (stored_next size n b t z') ts)) n o
      by (Steps.refused j) = refl
      by (next z') = fits (fitting size z') (run_steps N P size (n + 1) z' (stored_next size n b t z') ts)

module _ (N : ℕ) (P : List Rule) (size : ℕ) (text : List ℕ) where
  -- one turn more than there are bytes left is enough
  runs : (turns at n : ℕ) (z : State) (b : List Stored) → at ≤ length text → length text < turns + at
      → Runs N P size text at n z b (run_read N P size n z b (steps_at text turns at n))
  unfolding steps_at
  runs zero at n z b h l = absurd (omega arith)
  runs (suc turns) at n z b h l = go (λ at' z' b' u. runs turns at' (n + 1) z' b' u.1 (omega arith)) (line_at text at) refl
    where
      left : ℕ → StepsRead
      left at' = steps_at text turns at' (n + 1)

      go : ((at' : ℕ) (z' : State) (b' : List Stored) → (at < at') × (at' ≤ length text)
          → Runs N P size text at' (n + 1) z' b' (run_read N P size (n + 1) z' b' (left at')))
          → (o : LineAt) → line_at text at ≡ o → Runs N P size text at n z b (run_read N P size n z b (elim o [
            | end ↦ steps []
            | Lines.refused k ↦ refused [] k (n + 1)
            | line x zs at' ↦ after (record { letter = x; numbers = zs }) (left at')
          ]))
      go later end e = ends e
      go later (Lines.refused k) e = unread e
      go later (line x zs at') e =
          subst (Runs N P size text at n z b) (sym (run-after N P size n z b (record { letter = x; numbers = zs }) (left at')))
          (outcome (step N P z (record { letter = x; numbers = zs })) refl)
        where
          outcome : (o : Outcome) → step N P z (record { letter = x; numbers = zs }) ≡ o
              → Runs N P size text at n z b
              (step_then N P size (λ z'. run_read N P size (n + 1) z' (stored_after (n + 1) size x zs b z') (left at')) n o)
          outcome (Steps.refused k) s = unaccepted e s
          outcome (next z') s = fits (fitting size z') refl
            where
              fits : (f : Bool) → fitting size z' ≡ f
                  → Runs N P size text at n z b
                  (cond f (run_read N P size (n + 1) z' (stored_after (n + 1) size x zs b z') (left at')) (stopped StoreFull (n + 1)))
              fits true q =
                  let u = passed-line text at e in
                  good e s (leb-true _ _ q) (later at' z' (stored_after (n + 1) size x zs b z') (u.0, u.1))
              fits false q = full e s (leb-false _ _ q)

  read_as : (turns at n : ℕ) {o : LineAt} → line_at text at ≡ o → steps_at text (suc turns) at n ≡ elim o [
    | end ↦ steps []
    | Lines.refused k ↦ refused [] k (n + 1)
    | line x zs at' ↦ after (record { letter = x; numbers = zs }) (steps_at text turns at' (n + 1))
  ]
  unfolding steps_at
  read_as turns at n e =
      ap (λ (o : LineAt). elim o as (λ l. StepsRead) [
        | end ↦ steps []
        | Lines.refused k ↦ refused [] k (n + 1)
        | line x zs at' ↦ after (record { letter = x; numbers = zs }) (steps_at text turns at' (n + 1))
      ]) e

  line-then : (turns at n at' : ℕ) (z : State) (b : List Stored) (x : Letter) (zs : List ℤ) {o : Outcome}
      → line_at text at ≡ line x zs at' → step N P z (record { letter = x; numbers = zs }) ≡ o
      → run_read N P size n z b (steps_at text (suc turns) at n)
      ≡ step_then N P size (λ z'. run_read N P size (n + 1) z' (stored_after (n + 1) size x zs b z') (steps_at text turns at' (n + 1))) n o
  line-then turns at n at' z b x zs e s =
      let left = steps_at text turns at' (n + 1) in
      ap (run_read N P size n z b) (read_as turns at n e) ∙ run-after N P size n z b (record { letter = x; numbers = zs }) left
      ∙ ap (step_then N P size (λ z'. run_read N P size (n + 1) z' (stored_after (n + 1) size x zs b z') left) n) s

  -- what `Runs` says that the lines come to is the course
  only : (turns : ℕ) {at n : ℕ} {z : State} {b : List Stored} {c : Course} → at ≤ length text → length text < turns + at
      → Runs N P size text at n z b c → run_read N P size n z b (steps_at text turns at n) ≡ c
  only zero h l r = absurd (omega arith)
  only (suc turns) h l (ends {at = at} {n = n} {z = z} {b = b} e) = ap (run_read N P size n z b) (read_as turns at n e)
  only (suc turns) h l (unread {at = at} {n = n} {z = z} {b = b} e) = ap (run_read N P size n z b) (read_as turns at n e)
  only (suc turns) h l (unaccepted {at = at} {n = n} {after = at'} {z = z} {b = b} {x = x} {zs = zs} e s) =
      line-then turns at n at' z b x zs e s
  only (suc turns) h l (full {at = at} {n = n} {after = at'} {z = z} {z' = z'} {b = b} {x = x} {zs = zs} e s f) =
      line-then turns at n at' z b x zs e s ∙ rw (lt-leb (words_for z'.live) size f)
  only (suc turns) h l (good {at = at} {n = n} {after = at'} {z = z} {z' = z'} {b = b} {x = x} {zs = zs} e s f r) =
      let u = passed-line text at e in
      line-then turns at n at' z b x zs e s ∙ rw (le-leb (words_for z'.live) size f) (only turns u.1 (omega arith) r)

pub step-by-step : StepByStep
unfolding course_within
step-by-step limit N P size text c h = (
  λ e. subst (Runs N P size text 0 0 start []) (sym turns ∙ e) from,
  λ r. turns ∙ only N P size text (suc (length text)) (omega arith) (omega arith) r,
)
  where
    turns : course_within limit N P size text ≡ run_read N P size 0 start [] (all_steps text)
    turns = ap (run_read N P size 0 start []) (short-steps limit text h)

    from : Runs N P size text 0 0 start [] (run_read N P size 0 start [] (all_steps text))
    from = runs N P size text (suc (length text)) 0 0 start [] (omega arith) (omega arith)

pub same-course-within : SameCourseWithin
unfolding course_within
same-course-within limit other N P size text h k = ap (run_read N P size 0 start []) (same-within text limit other h k)
