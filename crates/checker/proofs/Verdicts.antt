-- What the whole check leaves, from what its parts leave.
-- Assumes nothing.
use mathlib.Core.Path.{◌≡◌, refl, sym, ◌∙◌, ap, ap₂}
use mathlib.Core.Bool.{Bool, true, false, cond}
use mathlib.Core.List.{List, []}
use Prim.Native.Nat.{ℕ, ◌≤◌, ◌<◌}
use native.Mathlib.Omega.{arith}
use lib.Dec.{leb}
use lib.IntN.{ℤ, pos}
use lib.ListN.{length, replicate}
use Rattle.words.proofs.Lists.{zero_one}
use Rattle.words.specs.Limits.{longest, most_rules}
use Rattle.words.specs.Lists.{any}
use Rattle.aspif.specs.Rules.{Rule, InputRule, expand, is_empty, atoms, table_words}
use Rattle.aspif.specs.Reading.{Reading, program, read_text, read_lines, program_answer, table_of}
use Rattle.aspif.specs.declared.ProgramCounts.{ProgramCounts}
use Rattle.aspif.specs.declared.ProgramFault.{ProgramFault}
use Rattle.aspif.specs.declared.ProgramFault.TheVariants.{TooLong}
use Rattle.aspif.specs.declared.ProgramRefusal.{ProgramRefusal}
use Rattle.aspif.specs.declared.Refusal.{Refusal}
use Rattle.aspif.specs.declared.Refusal.TheVariants as Refused
use Rattle.aspif.specs.Tables.{rules_at}
use Rattle.aspif.proofs.Cursors.{few-rules, sound-rules, atoms-small, rules-of}
use Rattle.aspif.proofs.Readable.{table-read}
use Rattle.drupe.proofs.Texts.{long-steps}
use Rattle.derivation.specs.States.{State, start}
use Rattle.derivation.specs.Steps.{empty_live}
use Rattle.nogoods.specs.Store.{Stored, live, store_words}
use Rattle.nogoods.specs.Keeps.{Holds}
use Rattle.runs.specs.Course.{Course, stopped, through, run_read, course_within, ends_empty}
use Rattle.checker.specs.Check.{saying, counts_of, is_inconsistent, Checked, judged, judged_reading, check_within}
use Rattle.steps.specs.Held.{Program}
use Rattle.runs.specs.Held.{Ran}
use Rattle.runs.specs.declared.ProofRefusal.{ProofRefusal}
use Rattle.checker.specs.declared.Verdict.{Verdict}
use Rattle.checker.specs.declared.Verdict.TheVariants.{RefusedProgram, RefusedProof}
use Rattle.runs.specs.declared.StepsTaken.{StepsTaken}
use Rattle.drupe.specs.declared.ProofFault.TheVariants as Fault
use Rattle.std.specs.Prelude.{Result, Ok, Err, IsErrAnd}
use Rattle.std.proofs.lemmas.Result.{err_from_is_err_and}

-- The proof's lines

pub too_long : (limit N : ℕ) (P : List Rule) (size : ℕ) (text : List ℕ) → limit < length text → course_within limit N P size text ≡ stopped Fault.TooLong 0
unfolding course_within
too_long limit N P size text h = ap (run_read N P size 0 start []) (long-steps limit text h)

module _ (store : List ℤ) where
  pub ran-stopped : (o : Course) {r : Result StepsTaken ProofRefusal} (x : ProofRefusal) → Ran store o r → r ≡ Err x → o ≡ stopped x.fault x.step
  ran-stopped (stopped k n) x l e = let p : x ≡ record { fault = k; step = n } = cc in rw p
  ran-stopped (through n z b) x l e = let q = l.1 in absurd (zero_one (cc))

  pub ran-through : (o : Course) {r : Result StepsTaken ProofRefusal} (taken : StepsTaken) → Ran store o r → r ≡ Ok taken
      → (z : State) × (stored : List Stored) × (o ≡ through taken.steps z stored) × Holds store taken.used stored
  ran-through (stopped k m) taken l e = absurd (zero_one (cc))
  ran-through (through m z b) taken l e =
      let w = l.1 in
      let c : record { steps = m; used = l.0 } ≡ taken = cc in
      (z, b, ap (λ (x : StepsTaken). through x.steps z b) c, rw (ap (λ (x : StepsTaken). x.used) c) at l.2)

-- The verdict on a proof

module _ (t s : ℕ) (P : List InputRule) (o : Course) {v : Verdict} {table store : List ℤ} where
  pub judged-stopped : (x : ProofRefusal) → o ≡ stopped x.fault x.step → v ≡ RefusedProof x → table ≡ replicate t (pos 0) → store ≡ replicate s (pos 0)
      → record { verdict = v; table = table; store = store } ≡ judged t s P o
  judged-stopped x p q a b = rw (p, q, a, b)

  pub judged-through : (n used N R : ℕ) (z : State) (stored : List Stored) → o ≡ through n z stored → live stored ≡ z.live
      → v ≡ saying (any is_empty (live stored)) (record { atoms = N; rules = R; steps = n; nogoods = length (live stored) })
      → N ≡ atoms P → R ≡ length P → table ≡ table_words t P → Holds store used stored → length store ≡ s
      → record { verdict = v; table = table; store = store } ≡ judged t s P o
  judged-through n used N R z stored p m q a b c H l = let w : store ≡ store_words s stored = rw l at H.words in rw (p, q, a, b, c, w, m)

-- the verdict is "inconsistent" exactly where the empty nogood is live at the end of the course
pub said-empty : (t s : ℕ) (P : List InputRule) (o : Course) → is_inconsistent (judged t s P o).verdict ≡ ends_empty o
said-empty t s P (stopped k n) = refl
said-empty t s P (through n z stored) = by (empty_live z)
  where
    by : (b : Bool) → is_inconsistent (saying b (counts_of (atoms P) (length P) n z)) ≡ b
    by true = refl
    by false = refl

pub verdict-empty : (t s : ℕ) (P : List InputRule) (o : Course) {v : Verdict} {table store : List ℤ}
    → record { verdict = v; table = table; store = store } ≡ judged t s P o → is_inconsistent v ≡ ends_empty o
verdict-empty t s P o e = ap (λ (x : Checked). is_inconsistent x.verdict) e ∙ said-empty t s P o

-- the verdict of a course, with the lengths that the caller knows
pub judged-lengths : (limit : ℕ) (P : List InputRule) (proof : List ℕ) {t t' s s' : ℕ} → t ≡ t' → s ≡ s'
    → judged t s P (course_within limit (atoms P) (expand P) s proof) ≡ judged t' s' P (course_within limit (atoms P) (expand P) s' proof)
judged-lengths limit P proof a b = ap₂ (λ t s. judged t s P (course_within limit (atoms P) (expand P) s proof)) a b

-- The program

pub lines-read : (t : ℕ) (text : List ℕ) (P : List InputRule) → read_text t text ≡ program P → read_lines t text ≡ program P
unfolding read_text
lines-read t text P e = by (leb (length text) longest) e
  where
    by : (b : Bool) → cond b (read_lines t text) (Reading.refused TooLong 0) ≡ program P → read_lines t text ≡ program P
    by true e = e
    by false e = absurd (zero_one (cc))

-- a program that is not read: what a service says of its refusal and of a table of zeros
pub unread : (t : ℕ) (text : List ℕ) {r : Result ProgramCounts ProgramRefusal} → r ≡ program_answer (read_text t text) → {table : List ℤ} → table ≡ table_of t (read_text t text)
    → {A : Type 0} (f : Reading → A) (g : ProgramRefusal → List ℤ → A)
    → ((k : ProgramFault) (n : ℕ) → g (record { fault = k; line = n }) (replicate t (pos 0)) ≡ f (Reading.refused k n))
    → (x : ProgramRefusal) → r ≡ Err x → g x table ≡ f (read_text t text)
unread t text answer {table} words f g same x e = by (read_text t text) (sym answer ∙ e) words
  where
    by : (d : Reading) → program_answer d ≡ Err x → table ≡ table_of t d → g x table ≡ f d
    by (Reading.refused k n) e w = let p : x ≡ record { fault = k; line = n } = cc in rw (p, w) (same k n)
    by (program P) e w = absurd (zero_one (cc))

-- what `?` answers of a program that is not read
pub handed-on : {T F : Type 0} (r : Result T (Refusal F)) {x : ProgramRefusal} → IsErrAnd r (λ y. y ≡ Refused.Program x) → r ≡ Err (Refused.Program x)
handed-on {F = F} r h = let e = err_from_is_err_and r h in e.1 ∙ ap (λ (y : Refusal F). Err y) e.2

module _ (t s : ℕ) (text proof : List ℕ) {r : Result ProgramCounts ProgramRefusal} (answer : r ≡ program_answer (read_text t text)) {table : List ℤ} (words : table ≡ table_of t (read_text t text)) where
  pub program-refused : (limit : ℕ) (x : ProgramRefusal) {store : List ℤ} → r ≡ Err x → store ≡ replicate s (pos 0)
      → record { verdict = RefusedProgram x; table = table; store = store } ≡ check_within limit text proof t s
  unfolding check_within
  program-refused limit x {store} e z =
      unread t text answer words (judged_reading limit t s proof) (λ y l. record { verdict = RefusedProgram y; table = l; store = store }) (λ k n. rw z refl) x e

  -- a program that was read, and what the table then holds
  pub record ReadProgram (N R : ℕ) : Type 0 where
    pub P : List InputRule
    pub read : read_text t text ≡ program P
    pub top : N ≡ atoms P
    pub count : length P ≡ R
    pub rules : table ≡ table_words t P

  pub program-read : (N R : ℕ) → r ≡ Ok (record { atoms = N; rules = R }) → ReadProgram N R
  program-read N R e = by (read_text t text) refl (sym answer ∙ e) words
    where
      by : (d : Reading) → read_text t text ≡ d → program_answer d ≡ Ok (record { atoms = N; rules = R }) → table ≡ table_of t d → ReadProgram N R
      by (Reading.refused k n) q e w = absurd (zero_one (cc))
      by (program P) q e w =
          let c : record { atoms = atoms P; rules = length P } ≡ record { atoms = N; rules = R } = cc in
          record { P = P; read = q; top = sym (ap (λ (x : ProgramCounts). x.atoms) c); count = ap (λ (x : ProgramCounts). x.rules) c; rules = w }

  pub check-read : (limit : ℕ) {N R : ℕ} (p : ReadProgram N R)
      → check_within limit text proof t s ≡ judged t s p.P (course_within limit (atoms p.P) (expand p.P) s proof)
  unfolding check_within
  check-read limit p = rw p.read

  -- the rules can be found in the table again
  pub held : {N R : ℕ} (p : ReadProgram N R) → length table ≡ t → Program table R N p.P × (R ≤ most_rules) × (table ≡ table_words (length table) p.P)
  held {N} {R} p long =
      let w : table ≡ table_words (length table) p.P = rw long p.rules in
      let a = (table-read table R p.P).1 (record { text = text; read = rw long (lines-read t text p.P p.read); count = p.count; words = w }) in
      let u = rules-of table R p.P a in
      let n = sound-rules table R u.0 in
      let m : N ≡ atoms (rules_at R table) = p.top ∙ ap atoms (sym u.1) in
      (record { holds = record { sound = n; are = u.1 }; top = p.top; high = omega (arith, atoms-small R table n, m) }, few-rules table R u.0, w)
