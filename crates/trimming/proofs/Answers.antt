-- What the service leaves, from what its parts leave. Assumes nothing.
use mathlib.Core.Path.{◌≡◌, refl, sym, ap, ◌∙◌}
use mathlib.Core.Bool.{true, false, true≢false}
use mathlib.Core.List.{List, ◌++◌}
use Prim.Native.Nat.{ℕ, ◌-◌, ◌≤◌}
use lib.IntN.{ℤ, pos}
use lib.ListN.{length, replicate, take}
use lib.Seq.{length-take-le, take_at}
use Rattle.words.specs.Limits.{longest}
use Rattle.aspif.specs.Rules.{InputRule, expand, atoms, table_words}
use Rattle.aspif.specs.Reading.{Reading, program, read_text, program_answer, table_of}
use Rattle.aspif.specs.declared.ProgramCounts.{ProgramCounts}
use Rattle.aspif.specs.declared.ProgramRefusal.{ProgramRefusal}
use Rattle.drupe.specs.Texts.{Step, StepsRead, steps, text_of, steps_of}
use Rattle.drupe.specs.Texts as Texts
use Rattle.drupe.proofs.Texts.{steps-exact, spelled}
use Rattle.runs.specs.Course.{Course, stopped, through, course, ends_empty, is_accepted}
use Rattle.checker.specs.Check.{Checked, judged, judged_reading}
use Rattle.checker.specs.declared.Verdict.{Verdict}
use Rattle.checker.proofs.Whole.{text-accepted, accepted-steps}
use Rattle.checker.proofs.Verdicts.{unread}
use Rattle.trimming.specs.Service.{course_of, accepted, trimmed_steps, untouched, store_after, trimmed_read, trimmed_reading, trim}
use Rattle.trimming.specs.Passing.{Reads}
use Rattle.aspif.specs.declared.Refusal.TheVariants.{Program, Service}
use Rattle.trimming.specs.declared.TrimFault.TheVariants.{NotAccepted}
use Rattle.trimming.proofs.Passes.{trimmed-settles, trimmed-order}
use Rattle.trimming.proofs.Turns.{sub-course}
use Rattle.std.specs.Prelude.{Result, Ok, Err}

-- The proof

-- the front is as it was
pub front_kept : (n k : ℕ) (xs : List ℕ) → n ≤ length xs → {ys : List ℕ} → ys ≡ take n xs ++ replicate k 0 → take n ys ≡ take n xs
front_kept n k xs h e = ap (take n) e ∙ take_at (take n xs) (replicate k 0) n (length-take-le n xs h)

-- what a check leaves of steps that are accepted
left_by : (t s : ℕ) (proof : List ℕ) (ws : List InputRule) (c : Course) → ends_empty c ≡ true
    → ((judged t s ws c).table ≡ table_words t ws) × ((judged t s ws c).store ≡ store_after t s proof c)
left_by t s proof ws (stopped k n) e = absurd (true≢false (sym e))
left_by t s proof ws (through n z b) e = (refl, refl)

module _ (t s : ℕ) (proof : List ℕ) (ws : List InputRule) {table store : List ℤ} where
  -- 60
  pub not-accepted : is_accepted s ws proof ≡ false → table ≡ replicate t (pos 0) → store ≡ replicate s (pos 0)
      → record { answer = Err (Service NotAccepted); text = proof; table = table; store = store } ≡ trimmed_reading t s proof (program ws)
  not-accepted a p q = rw (p, q) (by (steps_of proof) refl)
    where
      by : (r : StepsRead) → steps_of proof ≡ r → untouched t s proof (Err (Service NotAccepted)) ≡ trimmed_read t s proof ws r
      by (steps ts) e = let f : accepted s ws ts ≡ false = sym (text-accepted s ws proof (steps ts) e) ∙ a in rw f refl
      by (Texts.refused ts k n) e = refl

  -- the text written, and its check
  pub written : is_accepted s ws proof ≡ true → (text : List ℕ) (n : ℕ) → n ≤ length text → length text ≡ length proof
      → ((ts : List Step) → steps_of proof ≡ steps ts → Reads text n (trimmed_steps s ws ts))
      → {v : Verdict} → record { verdict = v; table = table; store = store } ≡ judged_reading longest t s (take n text) (program ws)
      → record { answer = Ok n; text = take n text ++ replicate (length text - n) 0; table = table; store = store } ≡ trimmed_reading t s proof (program ws)
  written a text n h l f {v} c = by (accepted-steps s ws proof a)
    where
      by : (ts : List Step) × (steps_of proof ≡ steps ts) × (accepted s ws ts ≡ true)
          → record { answer = Ok n; text = take n text ++ replicate (length text - n) 0; table = table; store = store } ≡ trimmed_reading t s proof (program ws)
      by (ts, e, b) =
          let us = trimmed_steps s ws ts in
          let x = (steps-exact longest proof ts).0 e in
          let p : take n text ≡ text_of us = spelled longest (take n text) us (f ts e) in
          let m : n ≡ length (text_of us) = sym (length-take-le n text h) ∙ ap length p in
          let q : course (atoms ws) (expand ws) s (text_of us) ≡ course_of s ws us = sub-course x.2 (rw (← x.0) x.1) s ws (trimmed-order Step (accepted s ws) ts) in
          let k = left_by t s proof ws (course_of s ws us) (trimmed-settles (accepted s ws) ts b).good in
          let g = c ∙ ap (λ (l : List ℕ). judged t s ws (course (atoms ws) (expand ws) s l)) p ∙ ap (judged t s ws) q in
          let i : table ≡ table_words t ws = ap (λ (y : Checked). y.table) g ∙ k.0 in
          let j : store ≡ store_after t s proof (course_of s ws us) = ap (λ (y : Checked). y.store) g ∙ k.1 in
          rw (e, b, i, j, p, l, m) refl

-- The program

module _ (t s : ℕ) (text proof : List ℕ) {r : Result ProgramCounts ProgramRefusal} (answer : r ≡ program_answer (read_text t text)) {table : List ℤ} (words : table ≡ table_of t (read_text t text)) where
  pub program-unread : (x : ProgramRefusal) {store : List ℤ} → r ≡ Err x → store ≡ replicate s (pos 0)
      → record { answer = Err (Program x); text = proof; table = table; store = store } ≡ trim t s proof text
  unfolding trim
  program-unread x {store} e z =
      unread t text answer words (trimmed_reading t s proof) (λ q l. record { answer = Err (Program q); text = proof; table = l; store = store }) (λ k n. rw z refl) x e

  pub program-trimmed : (ws : List InputRule) → read_text t text ≡ program ws → trimmed_reading t s proof (program ws) ≡ trim t s proof text
  unfolding trim
  program-trimmed ws e = rw e

pub trimmed-same : (proof : List ℕ) (r : Reading) {t t' s s' : ℕ} → t ≡ t' → s ≡ s' → trimmed_reading t s proof r ≡ trimmed_reading t' s' proof r
trimmed-same proof r a b = rw (a, b)
