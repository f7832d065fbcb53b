-- The merge over texts: what the check of a text says is what the steps with question 34 say, and the merged steps are read back from
-- their text. Assumes nothing.
use mathlib.Core.Path.{◌≡◌, refl, sym, ap, ap₂, ◌∙◌, subst}
use mathlib.Core.Logic.{◌⊎◌, inl, inr}
use mathlib.Core.Bool.{Bool, true, false, cond, ◌&&◌, true≢false}
use mathlib.Core.List.{List, [], ◌∷◌, ◌++◌}
use Prim.Native.Nat.{ℕ, ◌+◌, ◌-◌}
use lib.Dec.{leb}
use lib.IntN.{ℤ, pos, neg_ℤ}
use lib.ListN.{length, take, replicate}
use lib.Seq.{take_at}
use Rattle.words.specs.Limits.{longest}
use Rattle.words.specs.Lists.{◌∈◌}
use Rattle.words.proofs.Lists.{zero_one, if-true, leb-decides, and_left, and_right}
use Rattle.aspif.specs.Rules.{Rule, InputRule, expand, atoms, table_words}
use Rattle.aspif.specs.Reading.{Reading, program, read_text}
use Rattle.drupe.specs.Texts.{Step, StepsRead, steps, text_of, LinePasses}
use Rattle.drupe.specs.Texts as Texts
use Rattle.drupe.proofs.Texts.{read_back}
use Rattle.derivation.specs.States.{State, start, is_atom}
use Rattle.derivation.specs.Steps.{Outcome, refused, next, step, empty_live}
use Rattle.nogoods.specs.Store.{Stored, store_words}
use Rattle.steps.specs.After.{stored_after}
use Rattle.runs.specs.Course.{Course, stopped, through, fitting, run_steps, course, ends_empty, is_accepted}
use Rattle.checker.specs.Check.{counts_of, judged, check_within, check}
use Rattle.checker.specs.declared.Counts.{Counts}
use Rattle.checker.specs.declared.Verdict.TheVariants.{Inconsistent, RefusedProof}
use Rattle.steps.proofs.Turns.{steps-pass}
use Rattle.checker.proofs.Whole.{accepted-steps, course-written}
use Rattle.merging.specs.Merge.{all_fit}
use Rattle.merging.specs.Claims.{Accepted, InOr34, AcceptedAsWritten, demanding_as_written}
use Rattle.merging.specs.Claims as Claims
use Rattle.merging.proofs.AsWritten.{unsized-as-written, merged-as-written}
use Rattle.splits.specs.Service.{are_halves, steps_in, merged_steps, is_writable, MergeLeft, leaves_nothing, judged_text, merged_reading, merge, MergeAnswer}
use Rattle.splits.specs.Claims.{PastStore, MergedEnds, MergedText, Demand3Merged, AsChecked}
use Rattle.splits.proofs.Stopping.{never-past, goes-past}
use Rattle.drupe.specs.declared.ProofFault.TheVariants as Fault
use Rattle.splits.specs.declared.MergeFault.TheVariants.{NotAccepted, NotWritable, StoreFull}
use Rattle.aspif.specs.declared.Refusal.TheVariants.{Program, Service}
use Rattle.std.specs.Prelude.{Ok, Err}

-- Steps with question 34, as a course

-- the course says what the outcome says
abbrev RunsAs : Outcome → Course → Type 0
RunsAs (refused k) c = (n : ℕ) × (c ≡ stopped k n)
RunsAs (next z) c = (n : ℕ) × (stored : List Stored) × (c ≡ through n z stored)

module _ (N : ℕ) (P : List Rule) (size : ℕ) where
  runs_as : (n : ℕ) (z : State) (b : List Stored) (ts : List Step) → RunsAs (Claims.steps_in (fitting size) N P z ts) (run_steps N P size n z b ts)
  runs_as n z b [] = (n, b, refl)
  runs_as n z b (t ∷ ts) = by (λ z'. runs_as (n + 1) z' (stored_after (n + 1) size t.letter t.numbers b z') ts) (step N P z t)
    where
      after : State → Course
      after z' = run_steps N P size (n + 1) z' (stored_after (n + 1) size t.letter t.numbers b z') ts

      by : ((z' : State) → RunsAs (Claims.steps_in (fitting size) N P z' ts) (after z')) → (o : Outcome)
          → RunsAs (elim o as (λ x. Outcome) [ refused k ↦ refused k | next z' ↦ cond (fitting size z') (Claims.steps_in (fitting size) N P z' ts) (refused Fault.StoreFull) ])
          (elim o [ refused k ↦ stopped k (n + 1) | next z' ↦ cond (fitting size z') (after z') (stopped Fault.StoreFull (n + 1)) ])
      by below (refused k) = (n + 1, refl)
      by below (next z') = fits (fitting size z')
        where
          fits : (f : Bool) → RunsAs (cond f (Claims.steps_in (fitting size) N P z' ts) (refused Fault.StoreFull)) (cond f (after z') (stopped Fault.StoreFull (n + 1)))
          fits true = below z'
          fits false = (n + 1, refl)

-- a text that is accepted: its steps are
pub half-accepted : (size : ℕ) (ws : List InputRule) (text : List ℕ) → is_accepted size ws text ≡ true → AcceptedAsWritten (fitting size) ws (steps_in text)
half-accepted size ws text a =
    let s = accepted-steps size ws text a in
    subst (λ (r : StepsRead). AcceptedAsWritten (fitting size) ws (elim r as (λ x. List Step) [ steps ts ↦ ts | Texts.refused ts k n ↦ ts ])) (sym s.1)
    (ran s.0 _ (run_steps (atoms ws) (expand ws) size 0 start [] s.0) (runs_as (atoms ws) (expand ws) size 0 start [] s.0) s.2)
  where
    ran : (ts : List Step) (o : Outcome) (c : Course) → RunsAs o c → ends_empty c ≡ true → (z : State) × (o ≡ next z) × (empty_live z ≡ true)
    ran ts (refused k) c r e = absurd (true≢false (sym (ap ends_empty (sym r.1) ∙ e)))
    ran ts (next z) c r e = (z, refl, ap ends_empty (sym r.2) ∙ e)

-- The merged text

module _ (size : ℕ) (ws : List InputRule) (v : ℕ) (first second : List ℕ) (halves : are_halves size ws v first second ≡ true)
    (fit : all_fit (merged_steps ws v first second) ≡ true) where
  atom : is_atom (atoms ws) v ≡ true
  atom = and_left (is_atom (atoms ws) v) _ halves

  both : (is_accepted size (demanding_as_written ws (pos v)) first && is_accepted size (demanding_as_written ws (neg_ℤ (pos v))) second) ≡ true
  both = and_right (is_atom (atoms ws) v) _ halves

  first-half : AcceptedAsWritten (fitting size) (demanding_as_written ws (pos v)) (steps_in first)
  first-half = half-accepted size (demanding_as_written ws (pos v)) first (and_left (is_accepted size (demanding_as_written ws (pos v)) first) _ both)

  second-half : AcceptedAsWritten (fitting size) (demanding_as_written ws (neg_ℤ (pos v))) (steps_in second)
  second-half =
      half-accepted size (demanding_as_written ws (neg_ℤ (pos v))) second (and_right (is_accepted size (demanding_as_written ws (pos v)) first) _ both)

  -- question 34 aside
  merged-good : Accepted (atoms ws) (expand ws) (merged_steps ws v first second)
  merged-good = unsized-as-written (fitting size) ws v atom (steps_in first) (steps_in second) first-half second-half fit

  merged-pass : (t : Step) → t ∈ merged_steps ws v first second → LinePasses t
  merged-pass = let z = merged-good in steps-pass (atoms ws) (expand ws) start z.0 (merged_steps ws v first second) z.1

pub merged-ends : MergedEnds
merged-ends size ws v first second halves fit h = (
  good,
  (
    read_back longest ts pass h,
    by (merged-as-written (fitting size) ws v (atom size ws v first second halves fit) (steps_in first) (steps_in second)
        (first-half size ws v first second halves fit) (second-half size ws v first second halves fit) fit).0,
  ),
)
  where
    ts : List Step
    ts = merged_steps ws v first second

    good : Accepted (atoms ws) (expand ws) ts
    good = merged-good size ws v first second halves fit

    pass : (t : Step) → t ∈ ts → LinePasses t
    pass = merged-pass size ws v first second halves fit

    checked : Course
    checked = course (atoms ws) (expand ws) size (text_of ts)

    ran : (o : Outcome) → Claims.steps_in (fitting size) (atoms ws) (expand ws) start ts ≡ o → RunsAs o checked
    ran o e = subst (λ (x : Outcome). RunsAs x checked) e
        (subst (RunsAs (Claims.steps_in (fitting size) (atoms ws) (expand ws) start ts)) (sym (course-written longest (atoms ws) (expand ws) size ts pass h))
        (runs_as (atoms ws) (expand ws) size 0 start [] ts))

    by : InOr34 (fitting size) (atoms ws) (expand ws) ts
        → ((¬ (PastStore size ws ts)) × (is_accepted size ws (text_of ts) ≡ true)) ⊎ (PastStore size ws ts × ((n : ℕ) × (checked ≡ stopped Fault.StoreFull n)))
    by (inl (z, e, l)) = inl (never-past size ws ts z e, ap ends_empty (ran (next z) e).2 ∙ l)
    by (inr e) = inr (goes-past size ws ts good.0 good.1 e, ran (refused Fault.StoreFull) e)

pub merged-text : MergedText
unfolding check_within
merged-text text t s ws q v first second halves fit h =
    let m = merged-as-written (fitting s) ws v (atom s ws v first second halves fit) (steps_in first) (steps_in second)
    (first-half s ws v first second halves fit) (second-half s ws v first second halves fit) fit in
    (rw q (by (course (atoms ws) (expand ws) s (text_of (merged_steps ws v first second))) (merged-ends s ws v first second halves fit h).1.1), m.1)
  where
    by : {A B : Type 0} (c : Course) → (A × (ends_empty c ≡ true)) ⊎ (B × ((n : ℕ) × (c ≡ stopped Fault.StoreFull n)))
        → ((k : Counts) × ((judged t s ws c).verdict ≡ Inconsistent k))
        ⊎ ((n : ℕ) × ((judged t s ws c).verdict ≡ RefusedProof (record { fault = Fault.StoreFull; step = n })))
    by (stopped k m) (inl (x, e)) = absurd (true≢false (sym e))
    by (through n z stored) (inl (x, e)) = inl (counts_of (atoms ws) (length ws) n z, rw e refl)
    by c (inr (x, (n, e))) = inr (n, rw e refl)

-- What the service answers

-- what an answer other than a refusal by the program's questions, 57 or 58 tells
pub record Judged (t s o : ℕ) (v : ℕ) (first second : List ℕ) (r : Reading) : Type 0 where
  pub rules : List InputRule
  pub read : r ≡ program rules
  pub halves : are_halves s rules v first second ≡ true
  pub writable : is_writable o (merged_steps rules v first second) ≡ true
  pub left : merged_reading t s o v first second r
      ≡ judged_text t s o rules (text_of (merged_steps rules v first second)) (course (atoms rules) (expand rules) s (text_of (merged_steps rules v first second)))

-- neither of these three
abbrev Passes : MergeAnswer → Type 0
Passes (Ok n) = Unit {0}
Passes (Err (Program x)) = ⊥
Passes (Err (Service k)) = k ≡ StoreFull

judged-answer : (t s o : ℕ) (v : ℕ) (first second : List ℕ) (r : Reading) → Passes (merged_reading t s o v first second r).answer → Judged t s o v first second r
judged-answer t s o v first second (Reading.refused k n) p = absurd p
judged-answer t s o v first second (program ws) p = by (are_halves s ws v first second) refl (is_writable o (merged_steps ws v first second)) refl p
  where
    judgement : MergeLeft
    judgement = judged_text t s o ws (text_of (merged_steps ws v first second)) (course (atoms ws) (expand ws) s (text_of (merged_steps ws v first second)))

    by : (a : Bool) → are_halves s ws v first second ≡ a → (b : Bool) → is_writable o (merged_steps ws v first second) ≡ b
        → Passes (cond a (cond b judgement (leaves_nothing t s o (Err (Service NotWritable)))) (leaves_nothing t s o (Err (Service NotAccepted)))).answer → Judged t s o v first second (program ws)
    by true e true f p = record { rules = ws; read = refl; halves = e; writable = f; left = rw (e, f) refl }
    by true e false f p = let q : NotWritable ≡ StoreFull = p in absurd (zero_one (cc))
    by false e b f p = let q : NotAccepted ≡ StoreFull = p in absurd (zero_one (cc))

pub demand3-merged : Demand3Merged
unfolding merge
demand3-merged text v first second table store table' store' output output' r e a =
    let J = judged-answer (length table) (length store) (length output) v first second (read_text (length table) text) (passes r a (ap (λ (x : MergeLeft). x.answer) e)) in
    let w = J.writable in
    let fit = and_left (all_fit (merged_steps J.rules v first second)) _ w in
    let short = if-true (leb-decides _ longest) (and_left (leb (length (text_of (merged_steps J.rules v first second))) longest) _ (and_right (all_fit (merged_steps J.rules v first second)) _ w)) in
    (J.rules, J.read, (merged-text text (length table) (length store) J.rules J.read v first second J.halves fit short).1)
  where
    passes : (r : MergeAnswer) → ((n : ℕ) × (r ≡ Ok n)) ⊎ (r ≡ Err (Service StoreFull)) → {x : MergeAnswer} → r ≡ x → Passes x
    passes r (inl q) p = subst Passes (sym q.1 ∙ p) tt
    passes r (inr q) p = subst Passes (sym q ∙ p) refl

-- a text that was judged and written is found inconsistent by the check, which leaves the same table and store
module _ (text : List ℕ) (t s o n : ℕ) (table' store' : List ℤ) (output' : List ℕ) where
  abbrev left : MergeLeft
  left = record { answer = Ok n; table = table'; store = store'; output = output' }

  abbrev Goal : Type 0
  Goal = (c : Counts) × (check text (take n output') t s ≡ record { verdict = Inconsistent c; table = table'; store = store' })

  full : left ≡ leaves_nothing t s o (Err (Service StoreFull)) → ⊥
  full q = let i : ◌≡◌ {A = MergeAnswer} (Ok n) (Err (Service StoreFull)) = ap (λ (x : MergeLeft). x.answer) q in zero_one (cc)

  pub judged-checked : (ws : List InputRule) → read_text t text ≡ program ws → (p : List ℕ) (c : Course) → course (atoms ws) (expand ws) s p ≡ c
      → left ≡ judged_text t s o ws p c → Goal
  unfolding check_within
  judged-checked ws q p (stopped k m) r f = absurd (full f)
  judged-checked ws q p (through m z b) r f = ends (empty_live z) refl f
    where
      done : MergeLeft
      done = record { answer = Ok (length p); table = table_words t ws; store = store_words s b; output = p ++ replicate (o - length p) 0 }

      ends : (l : Bool) → empty_live z ≡ l → left ≡ cond l done (leaves_nothing t s o (Err (Service StoreFull))) → Goal
      ends false g f = absurd (full f)
      ends true g f =
          let j : ◌≡◌ {A = MergeAnswer} (Ok n) (Ok (length p)) = ap (λ (x : MergeLeft). x.answer) f in
          let i : n ≡ length p = cc in
          let a : table' ≡ table_words t ws = ap (λ (x : MergeLeft). x.table) f in
          let d : store' ≡ store_words s b = ap (λ (x : MergeLeft). x.store) f in
          let k : take n output' ≡ p = ap₂ take i (ap (λ (x : MergeLeft). x.output) f) ∙ take_at p (replicate (o - length p) 0) (length p) refl in
          (counts_of (atoms ws) (length ws) m z, rw (k, q, r, g, a, d) refl)

pub as-checked : AsChecked
unfolding merge
as-checked text v first second table store table' store' output output' n e =
    let J = judged-answer (length table) (length store) (length output) v first second (read_text (length table) text) (subst Passes (ap (λ (x : MergeLeft). x.answer) e) tt) in
    judged-checked text (length table) (length store) (length output) n table' store' output' J.rules J.read (text_of (merged_steps J.rules v first second)) _ refl (e ∙ J.left)
