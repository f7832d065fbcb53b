-- The whole check: demand 2; and demand 3, part two: the lines that it goes through are a list of steps accepted in turn, so what
-- `soundness` says of every such list holds wherever the check says "inconsistent".
-- Assumes nothing.
use mathlib.Core.Path.{◌≡◌, refl, sym, ◌∙◌, ap, ap₂}
use mathlib.Core.Bool.{Bool, true, false, cond, true≢false}
use mathlib.Core.List.{List, [], ◌∷◌}
use Prim.Native.Nat.{ℕ, ◌+◌, ◌≤◌}
use native.Mathlib.Omega.{arith}
use lib.ListN.{length}
use Rattle.words.proofs.Lists.{zero_one}
use Rattle.words.specs.Lists.{◌∈◌}
use Rattle.aspif.specs.Rules.{Rule, InputRule, expand, atoms}
use Rattle.aspif.specs.Reading.{Reading, program, read_text}
use Rattle.derivation.specs.States.{State, start}
use Rattle.drupe.specs.Texts.{Step, StepsRead, steps, refused, text_of, steps_within, steps_of, LinePasses}
use Rattle.drupe.proofs.Texts.{steps-exact, read_back}
use Rattle.derivation.specs.Steps.{Outcome, next, step, empty_live}
use Rattle.derivation.specs.Steps as Steps
use Rattle.derivation.specs.Claims.{NoneAsWritten}
use Rattle.derivation.proofs.AsWritten.{soundness-as-written}
use Rattle.nogoods.specs.Store.{Stored}
use Rattle.steps.proofs.Turns.{steps-pass}
use Rattle.runs.specs.Course.{Course, stopped, through, then_stopped, fitting, run_steps, run_read, course_within, ends_empty, is_accepted}
use Rattle.checker.specs.Check.{counts_of, saying, judged, judged_reading, check_within, Checked}
use Rattle.checker.specs.Claims.{Ended, Written, EndedWritten, VerdictExact, SoundWhole, ServiceExact, ServiceSound, SameWithin}
use Rattle.checker.specs.declared.Counts.{Counts}
use Rattle.runs.specs.declared.ProofRefusal.{ProofRefusal}
use Rattle.checker.specs.declared.Verdict.TheVariants.{RefusedProof}
use Rattle.runs.proofs.Lines.{stored_next, same-course-within}
use Rattle.drupe.specs.declared.ProofFault.TheVariants.{StoreFull}
use Rattle.drupe.specs.declared.ProofFault.{ProofFault}

-- the first of some steps that run through: it is accepted and fits, and the others run through
module _ (N : ℕ) (P : List Rule) (size n : ℕ) (z : State) (b : List Stored) (t : Step) (ts : List Step) where
  pub record First (c : Course) : Type 0 where
    pub left : State
    pub is : step N P z t ≡ next left
    pub fits : fitting size left ≡ true
    pub later : run_steps N P size (n + 1) left (stored_next size n b t left) ts ≡ c

pub run-first : (N : ℕ) (P : List Rule) (size n m : ℕ) (z w : State) (b l : List Stored) (t : Step) (ts : List Step)
    → run_steps N P size n z b (t ∷ ts) ≡ through m w l → First N P size n z b t ts (through m w l)
run-first N P size n m z w b l t ts e = by (step N P z t) refl e
  where
    on : State → Course
    on z' = run_steps N P size (n + 1) z' (stored_next size n b t z') ts

    by : (o : Outcome) → step N P z t ≡ o → elim o [
      | Steps.refused k ↦ stopped k (n + 1)
      | next z' ↦ cond (fitting size z') (on z') (stopped StoreFull (n + 1))
    ] ≡ through m w l → First N P size n z b t ts (through m w l)
    by (Steps.refused k) q e = absurd (zero_one (cc))
    by (next z') q e = fits (fitting size z') refl e
      where
        fits : (f : Bool) → fitting size z' ≡ f → cond f (on z') (stopped StoreFull (n + 1)) ≡ through m w l
            → First N P size n z b t ts (through m w l)
        fits true f e = record { left = z'; is = q; fits = f; later = e }
        fits false f e = absurd (zero_one (cc))

-- steps that run through are accepted in turn, and are as many as are counted
pub run-through : (N : ℕ) (P : List Rule) (size n m : ℕ) (z w : State) (b l : List Stored) (ts : List Step)
    → run_steps N P size n z b ts ≡ through m w l → (Steps.steps N P z ts ≡ next w) × (m ≡ n + length ts)
run-through N P size n m z w b l [] e = let p : z ≡ w = cc in let q : n ≡ m = cc in (ap next p, omega arith)
run-through N P size n m z w b l (t ∷ ts) e =
    let r = run-first N P size n m z w b l t ts e in
    let q = run-through N P size (n + 1) m r.left w (stored_next size n b t r.left) l ts r.later in
    (rw (r.is, Steps.steps) q.0, omega (arith, q.1))

-- the course of a text that a writer of good steps leaves
pub course-written : (limit N : ℕ) (P : List Rule) (size : ℕ) (ts : List Step) → ((t : Step) → t ∈ ts → LinePasses t) → length (text_of ts) ≤ limit
    → course_within limit N P size (text_of ts) ≡ run_steps N P size 0 start [] ts
unfolding course_within
course-written limit N P size ts p h = ap (run_read N P size 0 start []) (read_back limit ts p h)

pub ended-written : EndedWritten
ended-written limit ws size proof b c = (to, from)
  where
    to : Ended limit ws size proof b c → Written limit ws size proof b c
    to E = let x = (steps-exact limit proof E.0).0 E.3 in (E.0, E.1, E.2, x.0, x.1, E.4, E.5, E.6)

    from : Written limit ws size proof b c → Ended limit ws size proof b c
    from W =
        let a = (run-through (atoms ws) (expand ws) size 0 _ start W.1 [] W.2 W.0 W.5).0 in
        (W.0, W.1, W.2, (steps-exact limit proof W.0).1 (W.3, W.4, steps-pass (atoms ws) (expand ws) start W.1 W.0 a), W.5, W.6, W.7)

-- a text of which a line is refused is not accepted
unread-open : (k : ProofFault) (n : ℕ) (c : Course) → ends_empty (then_stopped k n c) ≡ false
unread-open k n (stopped j m) = refl
unread-open k n (through m z b) = refl

module _ (size : ℕ) (ws : List InputRule) (text : List ℕ) where
  -- a text is accepted as its steps are
  pub text-accepted : (r : StepsRead) → steps_of text ≡ r → is_accepted size ws text ≡ ends_empty (run_read (atoms ws) (expand ws) size 0 start [] r)
  unfolding course_within
  text-accepted r e = ap (λ (x : StepsRead). ends_empty (run_read (atoms ws) (expand ws) size 0 start [] x)) e

  pub accepted-steps : is_accepted size ws text ≡ true
      → (ts : List Step) × (steps_of text ≡ steps ts) × (ends_empty (run_steps (atoms ws) (expand ws) size 0 start [] ts) ≡ true)
  accepted-steps a = by (steps_of text) refl
    where
      by : (r : StepsRead) → steps_of text ≡ r
          → (ts : List Step) × (steps_of text ≡ steps ts) × (ends_empty (run_steps (atoms ws) (expand ws) size 0 start [] ts) ≡ true)
      by (steps ts) e = (ts, e, sym (text-accepted (steps ts) e) ∙ a)
      by (refused ts k n) e =
          absurd (true≢false (sym a ∙ text-accepted (refused ts k n) e ∙ unread-open k n (run_steps (atoms ws) (expand ws) size 0 start [] ts)))

  -- a program for which a text is accepted has no answer set
  pub accepted-none : is_accepted size ws text ≡ true → NoneAsWritten ws
  accepted-none a = let s = accepted-steps a in by s.0 (run_steps (atoms ws) (expand ws) size 0 start [] s.0) refl s.2
    where
      by : (ts : List Step) (c : Course) → run_steps (atoms ws) (expand ws) size 0 start [] ts ≡ c → ends_empty c ≡ true → NoneAsWritten ws
      by ts (stopped k n) r e = absurd (true≢false (sym e))
      by ts (through n z b) r e = soundness-as-written ws ts z (run-through (atoms ws) (expand ws) size 0 n start z [] b ts r).0 e

-- the two verdicts of a course that went through tell whether the empty nogood is live, and the counts
same-saying : (a b : Bool) (c d : Counts) → saying a c ≡ saying b d → (a ≡ b) × (d ≡ c)
same-saying true true c d e = (refl, cc)
same-saying true false c d e = absurd (zero_one (cc))
same-saying false true c d e = absurd (zero_one (cc))
same-saying false false c d e = (refl, cc)

-- a refusal of the proof is none of the two verdicts of a course that went through
refusal-apart : (b : Bool) (c : Counts) (x : ProofRefusal) → RefusedProof x ≡ saying b c → ⊥
refusal-apart true c x e = zero_one (cc)
refusal-apart false c x e = zero_one (cc)

module _ (limit : ℕ) (proof : List ℕ) (t s : ℕ) (ws : List InputRule) (b : Bool) (c : Counts) where
  abbrev N : ℕ
  N = atoms ws

  abbrev P : List Rule
  P = expand ws

  ended→ : (judged t s ws (course_within limit N P s proof)).verdict ≡ saying b c → Ended limit ws s proof b c
  unfolding course_within
  ended→ e = by (steps_within limit proof) refl e
    where
      unread : (k : ProofFault) (n : ℕ) (o : Course) → (judged t s ws (then_stopped k n o)).verdict ≡ saying b c → Ended limit ws s proof b c
      unread k n (stopped j m) e = absurd (refusal-apart b c _ e)
      unread k n (through m z l) e = absurd (refusal-apart b c _ e)

      ran : (ts : List Step) → steps_within limit proof ≡ steps ts → (o : Course) → run_steps N P s 0 start [] ts ≡ o → (judged t s ws o).verdict ≡ saying b c → Ended limit ws s proof b c
      ran ts p (stopped k n) r e = absurd (refusal-apart b c _ e)
      ran ts p (through n z l) r e =
          let q = same-saying (empty_live z) b (counts_of N (length ws) n z) c e in
          let m : n ≡ length ts = omega (arith, (run-through N P s 0 n start z [] l ts r).1) in
          (ts, z, l, p, rw m at r, q.0, rw m at q.1)

      by : (o : StepsRead) → steps_within limit proof ≡ o → (judged t s ws (run_read N P s 0 start [] o)).verdict ≡ saying b c → Ended limit ws s proof b c
      by (steps ts) p e = ran ts p (run_steps N P s 0 start [] ts) refl e
      by (refused ts k n) p e = unread k n (run_steps N P s 0 start [] ts) e

  pub ended-course : (E : Ended limit ws s proof b c) → course_within limit N P s proof ≡ through (length E.0) E.1 E.2
  unfolding course_within
  ended-course E = ap (run_read N P s 0 start []) E.3 ∙ E.4

  ended← : Ended limit ws s proof b c → (judged t s ws (course_within limit N P s proof)).verdict ≡ saying b c
  ended← E =
      ap (λ (o : Course). (judged t s ws o).verdict) (ended-course E) ∙ ap₂ (λ a d. saying a d) E.5 (sym E.6)

pub verdict-exact : VerdictExact
unfolding check_within
verdict-exact limit text proof t s ws q c =
    rw q ((ended→ limit proof t s ws true c, ended← limit proof t s ws true c), (ended→ limit proof t s ws false c, ended← limit proof t s ws false c))

-- no program that is refused is said to be inconsistent or open
read_of : (limit t s : ℕ) (proof : List ℕ) (r : Reading) (b : Bool) (c : Counts) → (judged_reading limit t s proof r).verdict ≡ saying b c
    → (ws : List InputRule) × (r ≡ program ws)
read_of limit t s proof (Reading.refused k n) true c e = absurd (zero_one (cc))
read_of limit t s proof (Reading.refused k n) false c e = absurd (zero_one (cc))
read_of limit t s proof (program ws) b c e = (ws, refl)

-- the program that a verdict is about, and how its steps ended
pub said : (limit : ℕ) (text proof : List ℕ) (t s : ℕ) (b : Bool) (c : Counts) → (check_within limit text proof t s).verdict ≡ saying b c
    → (ws : List InputRule) × (read_text t text ≡ program ws) × Ended limit ws s proof b c
unfolding check_within
said limit text proof t s b c e =
    let r = read_of limit t s proof (read_text t text) b c e in
    (r.0, r.1, ended→ limit proof t s r.0 b c (rw r.1 at e))

pub soundness-whole : SoundWhole
soundness-whole limit text proof t s c e =
    let r = said limit text proof t s true c e in
    let E = r.2 in
    let a = (run-through (atoms r.0) (expand r.0) s 0 _ start E.1 [] E.2 E.0 E.4).0 in
    (r.0, r.1, soundness-as-written r.0 E.0 E.1 a E.5)

pub service-exact : ServiceExact
service-exact limit text proof table store table' store' r e ws q c =
    rw (ap (λ (x : Checked). x.verdict) e) (verdict-exact limit text proof (length table) (length store) ws q c)

pub service-sound : ServiceSound
service-sound limit text proof table store table' store' c e =
    soundness-whole limit text proof (length table) (length store) c (sym (ap (λ (x : Checked). x.verdict) e))

pub same-within : SameWithin
unfolding check_within
same-within limit other text proof t s h k = by (read_text t text)
  where
    by : (r : Reading) → judged_reading limit t s proof r ≡ judged_reading other t s proof r
    by (Reading.refused i n) = refl
    by (program ws) = ap (judged t s ws) (same-course-within limit other (atoms ws) (expand ws) s proof h k)
