-- What the service leaves, from what its parts leave. Assumes nothing.
use mathlib.Core.Path.{◌≡◌, refl, sym, ap, ◌∙◌}
use mathlib.Core.Logic.{inl, inr}
use mathlib.Core.Bool.{true, false, true≢false}
use mathlib.Core.List.{List, ◌++◌}
use Prim.Native.Nat.{ℕ, ◌-◌, ◌≤◌}
use native.Mathlib.Omega.{arith}
use lib.Dec.{leb}
use lib.IntN.{ℤ, pos}
use lib.ListN.{length, replicate, take}
use lib.Seq.{take_at}
use Rattle.words.specs.Limits.{longest}
use Rattle.words.proofs.Lists.{if-true, and_right, leb-decides}
use Rattle.aspif.specs.Rules.{InputRule}
use Rattle.aspif.specs.Reading.{Reading, program, read_text, program_answer, table_of}
use Rattle.aspif.specs.declared.ProgramCounts.{ProgramCounts}
use Rattle.aspif.specs.declared.ProgramRefusal.{ProgramRefusal}
use Rattle.drupe.specs.Texts.{text_of}
use Rattle.derivation.specs.Steps.{empty_live}
use Rattle.merging.specs.Merge.{all_fit}
use Rattle.runs.specs.Course.{Course, stopped, through}
use Rattle.checker.specs.Check.{Checked, judged, is_inconsistent}
use Rattle.checker.specs.declared.Verdict.{Verdict}
use Rattle.checker.proofs.Verdicts.{verdict-empty, unread}
use Rattle.splits.specs.Service.{merged_steps, is_writable, leaves_nothing, judged_text, merged_reading, merge}
use Rattle.splits.specs.Joined.{WrittenBy}
use Rattle.splits.specs.Judging.{judged_as}
use Rattle.std.specs.Prelude.{Result, Err, Ok}
use Rattle.splits.specs.declared.MergeFault.TheVariants.{StoreFull}
use Rattle.splits.specs.declared.MergeFault.{MergeFault}
use Rattle.aspif.specs.declared.Refusal.TheVariants.{Program, Service}

-- what is left of nothing, by the lengths that the caller knows
pub left-nothing : (t s o : ℕ) {k : MergeFault} {table store : List ℤ} {output : List ℕ} → table ≡ replicate t (pos 0) → store ≡ replicate s (pos 0) → output ≡ replicate o 0
    → record { answer = Err (Service k); table = table; store = store; output = output } ≡ leaves_nothing t s o (Err (Service k))
left-nothing t s o a b c = rw (a, b, c)

pub same-nothing : {t t' s s' o o' : ℕ} (k : MergeFault) → t ≡ t' → s ≡ s' → o ≡ o' → leaves_nothing t s o (Err (Service k)) ≡ leaves_nothing t' s' o' (Err (Service k))
same-nothing k a b c = rw (a, b, c)

-- 59

-- the text at the front of the output
pub text_in : (text : List ℕ) (k : ℕ) {output : List ℕ} {n : ℕ} → n ≡ length text → output ≡ text ++ replicate k 0 → take n output ≡ text
text_in text k {output} {n} l e = ap (take n) e ∙ take_at text (replicate k 0) n (sym l)

module _ (t s o : ℕ) (ws : List InputRule) (text : List ℕ) {v : Verdict} {table store : List ℤ} where
  pub found-inconsistent : (c : Course) → record { verdict = v; table = table; store = store } ≡ judged t s ws c → is_inconsistent v ≡ true → {output : List ℕ} {m : ℕ}
      → m ≡ length text → output ≡ text ++ replicate (o - m) 0
      → record { answer = Ok m; table = table; store = store; output = output } ≡ judged_text t s o ws text c
  found-inconsistent (stopped k n) e i l p = absurd (true≢false (sym i ∙ verdict-empty t s ws (stopped k n) e))
  found-inconsistent (through n z stored) e i l p =
      let f : empty_live z ≡ true = sym (verdict-empty t s ws (through n z stored) e) ∙ i in
      rw (f, ap (λ (x : Checked). x.table) e, ap (λ (x : Checked). x.store) e, p, l) refl

  pub found-otherwise : (c : Course) → record { verdict = v; table = table; store = store } ≡ judged t s ws c → is_inconsistent v ≡ false
      → leaves_nothing t s o (Err (Service StoreFull)) ≡ judged_text t s o ws text c
  found-otherwise (stopped k n) e i = refl
  found-otherwise (through n z stored) e i = let f : empty_live z ≡ false = sym (verdict-empty t s ws (through n z stored) e) ∙ i in rw f refl

-- the same, by the lengths that the caller knows
pub judged-same : (ws : List InputRule) (text : List ℕ) {t t' s s' o o' : ℕ} → t ≡ t' → s ≡ s' → o ≡ o' → judged_as t s o ws text ≡ judged_as t' s' o' ws text
judged-same ws text a b c = rw (a, b, c)

-- 57 and 58

module _ (t s o : ℕ) (ws : List InputRule) (v : ℕ) (first second output : List ℕ) (same : length output ≡ o) where
  pub not_written : {w : Result ℕ MergeFault} (k : MergeFault) → w ≡ Err k → WrittenBy s ws v first second output w
      → leaves_nothing t s o (Err (Service k)) ≡ merged_reading t s o v first second (program ws)
  not_written k e W = by (rw e at W)
    where
      by : WrittenBy s ws v first second output (Err k) → leaves_nothing t s o (Err (Service k)) ≡ merged_reading t s o v first second (program ws)
      by (inl a) = rw (a.1, a.0) refl
      by (inr a) = let q : is_writable o (merged_steps ws v first second) ≡ false = rw (← same) a.2 in rw (a.1, q, a.0) refl

  pub record Text (n : ℕ) : Type 0 where
    pub is : n ≡ length (text_of (merged_steps ws v first second))
    pub holds : output ≡ text_of (merged_steps ws v first second) ++ replicate (length output - n) 0
    pub within : n ≤ length output
    pub judged : judged_as t s o ws (text_of (merged_steps ws v first second)) ≡ merged_reading t s o v first second (program ws)

  pub is-written : {w : Result ℕ MergeFault} (n : ℕ) → w ≡ Ok n → WrittenBy s ws v first second output w → Text n
  is-written n e W = by (rw e at W)
    where
      by : WrittenBy s ws v first second output (Ok n) → Text n
      by a =
          let q : is_writable o (merged_steps ws v first second) ≡ true = rw (← same) a.1 in
          let T = text_of (merged_steps ws v first second) in
          let w = and_right (leb (length T) longest) _ (and_right (all_fit (merged_steps ws v first second)) _ a.1) in
          let h : length T ≤ length output = if-true (leb-decides (length T) (length output)) w in
          record { is = a.2.0; holds = a.2.1; within = omega (arith, h, a.2.0); judged = rw (a.0, q) refl }

-- The program

module _ (t s o : ℕ) (text : List ℕ) (v : ℕ) (first second : List ℕ) {r : Result ProgramCounts ProgramRefusal} (answer : r ≡ program_answer (read_text t text)) {table : List ℤ} (words : table ≡ table_of t (read_text t text)) where
  pub unread-halves : (x : ProgramRefusal) {store : List ℤ} {output : List ℕ} → r ≡ Err x → store ≡ replicate s (pos 0) → output ≡ replicate o 0
      → record { answer = Err (Program x); table = table; store = store; output = output } ≡ merge t s o text v first second
  unfolding merge
  unread-halves x {store} {output} e z y =
      unread t text answer words (merged_reading t s o v first second) (λ q l. record { answer = Err (Program q); table = l; store = store; output = output }) (λ k n. rw (z, y) refl) x e

  pub merge-read : (ws : List InputRule) → read_text t text ≡ program ws → merged_reading t s o v first second (program ws) ≡ merge t s o text v first second
  unfolding merge
  merge-read ws e = rw e

pub reading-same : (v : ℕ) (first second : List ℕ) (r : Reading) {t t' s s' o o' : ℕ} → t ≡ t' → s ≡ s' → o ≡ o'
    → merged_reading t s o v first second r ≡ merged_reading t' s' o' v first second r
reading-same v first second r a b c = rw (a, b, c)
