-- What the service's contract says of the text that it writes. Assumes nothing.
use mathlib.Core.Path.{◌≡◌, refl, sym, ap, ◌∙◌, subst}
use mathlib.Core.Bool.{Bool, true, false, cond, true≢false}
use mathlib.Core.List.{List, ◌∷◌, ◌++◌, append-nil}
use Prim.Native.Nat.{ℕ, ◌-◌, ◌≤◌}
use native.Mathlib.Omega.{arith}
use lib.IntN.{ℤ, pos}
use lib.ListN.{length, take, replicate}
use lib.Seq.{take_at}
use Rattle.words.specs.Limits.{longest}
use Rattle.weights.specs.Claims.{without}
use Rattle.weights.proofs.Sublists.{itself, through as onto}
use Rattle.aspif.specs.Rules.{InputRule, atoms, table_words}
use Rattle.aspif.specs.Reading.{Reading, program, read_text}
use Rattle.drupe.specs.Texts.{Step, StepsRead, steps, text_of, steps_of}
use Rattle.drupe.specs.Texts as Texts
use Rattle.drupe.proofs.Texts.{AllPass, steps-exact}
use Rattle.runs.specs.Course.{Course, stopped, through, ends_empty, is_accepted}
use Rattle.checker.specs.Check.{counts_of, check_within, check}
use Rattle.checker.specs.declared.Counts.{Counts}
use Rattle.checker.specs.declared.Verdict.TheVariants.{Inconsistent}
use Rattle.trimming.specs.Trims.{Sublist}
use Rattle.trimming.specs.Service.{TrimAnswer, course_of, accepted, trimmed_steps, TrimLeft, untouched, store_after, trimmed_to, trimmed_read, trimmed_reading, trim}
use Rattle.trimming.specs.Claims.{Demand3Trimmed, TrimmedText, TrimmedTwice, Untouched}
use Rattle.std.specs.Prelude.{Ok, Err}
use Rattle.aspif.specs.declared.Refusal.TheVariants.{Service}
use Rattle.trimming.specs.declared.TrimFault.TheVariants.{NotAccepted}
use Rattle.trimming.proofs.Passes.{trimmed-settles, trimmed-order, trimmed-minimal, trimmed-stays}
use Rattle.trimming.proofs.Proofs.{no-answer-set}
use Rattle.trimming.proofs.Turns.{sub-append, sub_read, sub-course, sub-accepted}

-- a proof was trimmed
abbrev IsTrimmed : TrimAnswer → Type 0
IsTrimmed (Ok n) = Unit {0}
IsTrimmed (Err r) = ⊥

-- what this tells of the two texts
record Told (t s : ℕ) (proof : List ℕ) (r : Reading) : Type 0 where
  rules : List InputRule
  read : r ≡ program rules
  before : List Step
  given : steps_of proof ≡ steps before
  good : accepted s rules before ≡ true
  left : trimmed_reading t s proof r ≡ trimmed_to t s proof rules (trimmed_steps s rules before)

told : (t s : ℕ) (proof : List ℕ) (r : Reading) → IsTrimmed (trimmed_reading t s proof r).answer → Told t s proof r
told t s proof (Reading.refused k n) i = absurd i
told t s proof (program ws) i = by (steps_of proof) refl i
  where
    by : (d : StepsRead) → steps_of proof ≡ d → IsTrimmed (trimmed_read t s proof ws d).answer → Told t s proof (program ws)
    by (Texts.refused ts k n) e i = absurd i
    by (steps ts) e i = on (accepted s ws ts) refl i
      where
        on : (b : Bool) → accepted s ws ts ≡ b → IsTrimmed (cond b (trimmed_to t s proof ws (trimmed_steps s ws ts)) (untouched t s proof (Err (Service NotAccepted)))).answer → Told t s proof (program ws)
        on true g i = record { rules = ws; read = refl; before = ts; given = e; good = g; left = rw (e, g) refl }
        on false g i = absurd i

-- the steps that are left
module _ (t s : ℕ) (text proof : List ℕ) (T : Told t s proof (read_text t text)) where
  abbrev ws : List InputRule
  ws = T.rules

  abbrev us : List Step
  us = trimmed_steps s ws T.before

  passing : AllPass T.before
  passing = ((steps-exact longest proof T.before).0 T.given).2

  short : length (text_of T.before) ≤ longest
  short = let x = (steps-exact longest proof T.before).0 T.given in rw (← x.0) x.1

  order : Sublist us T.before
  order = trimmed-order Step (accepted s ws) T.before

  left-good : accepted s ws us ≡ true
  left-good = (trimmed-settles (accepted s ws) T.before T.good).good

  -- the check of their text
  found : (c : Course) → course_of s ws us ≡ c → ends_empty c ≡ true
      → (n : Counts) × (check text (text_of us) t s ≡ record { verdict = Inconsistent n; table = table_words t ws; store = store_after t s proof c })
  unfolding check_within
  found (stopped k n) q e = absurd (true≢false (sym e))
  found (through n z b) q e =
      let p = sub-course passing short s ws order ∙ q in
      (counts_of (atoms ws) (length ws) n z, rw (T.read, p, e) refl)

  -- without one of them
  single : (front : List Step) (u : Step) (back : List Step) → us ≡ front ++ (u ∷ back) → is_accepted s ws (text_of (front ++ back)) ≡ false
  single front u back e =
      let o : Sublist (front ++ back) us = subst (Sublist (front ++ back)) (sym e) (sub-append front (without (itself back))) in
      sub-accepted passing short s ws (onto o order) ∙ trimmed-minimal Step (accepted s ws) T.before T.good front u back e

  -- their text, trimmed again
  again : record { answer = Ok (length (text_of us)); text = text_of us; table = table_words t ws; store = store_after t s proof (course_of s ws us) }
      ≡ trim t s (text_of us) text
  unfolding trim
  again =
      let r : steps_of (text_of us) ≡ steps us = sub_read passing short order in
      let z : length (text_of us) - length (text_of us) ≡ 0 = omega arith in
      let p : text_of us ≡ text_of us ++ replicate (length (text_of us) - length (text_of us)) 0 = rw z (sym (append-nil (text_of us))) in
      let q : trimmed_to t s (text_of us) ws us ≡ trimmed_reading t s (text_of us) (program ws) =
      ap (trimmed_to t s (text_of us) ws) (sym (trimmed-stays (accepted s ws) T.before T.good)) ∙ rw (r, left-good) refl in
      ap (λ (l : List ℕ). record { answer = Ok (length (text_of us)); text = l; table = table_words t ws; store = store_after t s proof (course_of s ws us) }) p
      ∙ q ∙ ap (trimmed_reading t s (text_of us)) (sym T.read)

-- The claims

-- the contract's answer is `Ok`
is-trimmed : (t s : ℕ) (proof : List ℕ) (r : Reading) {n : ℕ} {proof' : List ℕ} {table' store' : List ℤ}
    → record { answer = Ok n; text = proof'; table = table'; store = store' } ≡ trimmed_reading t s proof r → Told t s proof r
is-trimmed t s proof r e = told t s proof r (subst IsTrimmed (ap (λ (x : TrimLeft). x.answer) e) tt)

pub demand3-trimmed : Demand3Trimmed
unfolding trim
demand3-trimmed text proof proof' table store table' store' n e =
    let T = is-trimmed (length table) (length store) proof (read_text (length table) text) e in
    (T.rules, T.read, no-answer-set (length store) T.rules T.before T.good)

-- what is left, by the steps
record Left (t s : ℕ) (proof proof' : List ℕ) (table' store' : List ℤ) (n : ℕ) (ws : List InputRule) (us : List Step) : Type 0 where
  size : n ≡ length (text_of us)
  stands : proof' ≡ text_of us ++ replicate (length proof - n) 0
  front : take n proof' ≡ text_of us
  table : table' ≡ table_words t ws
  store : store' ≡ store_after t s proof (course_of s ws us)

left_so : (t s : ℕ) (proof : List ℕ) (ws : List InputRule) (us : List Step) {n : ℕ} {proof' : List ℕ} {table' store' : List ℤ}
    → record { answer = Ok n; text = proof'; table = table'; store = store' } ≡ trimmed_to t s proof ws us → Left t s proof proof' table' store' n ws us
left_so t s proof ws us {n} {proof'} e =
    let j : ◌≡◌ {A = TrimAnswer} (Ok n) (Ok (length (text_of us))) = ap (λ (x : TrimLeft). x.answer) e in
    let i : n ≡ length (text_of us) = cc in
    let p : proof' ≡ text_of us ++ replicate (length proof - n) 0 = ap (λ (x : TrimLeft). x.text) e ∙ ap (λ (k : ℕ). text_of us ++ replicate (length proof - k) 0) (sym i) in
    record {
      size = i;
      stands = p;
      front = ap (take n) p ∙ take_at (text_of us) (replicate (length proof - n) 0) n (sym i);
      table = ap (λ (x : TrimLeft). x.table) e;
      store = ap (λ (x : TrimLeft). x.store) e;
    }

module _ (t s : ℕ) (text proof : List ℕ) (T : Told t s proof (read_text t text)) {n : ℕ} {proof' : List ℕ} {table' store' : List ℤ}
    (L : Left t s proof proof' table' store' n T.rules (us t s text proof T)) where
  checked-so : (c : Counts) × (check text (take n proof') t s ≡ record { verdict = Inconsistent c; table = table'; store = store' })
  checked-so =
      let c = found t s text proof T (course_of s T.rules (us t s text proof T)) refl (left-good t s text proof T) in
      (c.0, rw (L.front, L.table, L.store) c.1)

  twice-so : record { answer = Ok n; text = take n proof'; table = table'; store = store' } ≡ trim t s (take n proof') text
  twice-so = rw (L.front, L.table, L.store, L.size) (again t s text proof T)

pub trimmed-text : TrimmedText
unfolding trim
trimmed-text text proof proof' table store table' store' n e =
    let t = length table in
    let s = length store in
    let T = is-trimmed t s proof (read_text t text) e in
    let L = left_so t s proof T.rules (us t s text proof T) (e ∙ T.left) in
    let c = checked-so t s text proof T L in
    record {
      rules = T.rules;
      read = T.read;
      before = T.before;
      given = T.given;
      left = us t s text proof T;
      order = order t s text proof T;
      written = L.stands;
      size = L.size;
      counts = c.0;
      checked = c.1;
      minimal = single t s text proof T;
    }

pub trimmed-twice : TrimmedTwice
unfolding trim
trimmed-twice text proof proof' table store table' store' n e =
    let t = length table in
    let s = length store in
    let T = is-trimmed t s proof (read_text t text) e in
    let L = left_so t s proof T.rules (us t s text proof T) (e ∙ T.left) in
    twice-so t s text proof T L

pub untouched-otherwise : Untouched
unfolding trim
untouched-otherwise text proof proof' table store table' store' r e f = by (read_text (length table) text) e
  where
    t : ℕ
    t = length table

    s : ℕ
    s = length store

    left : TrimLeft
    left = record { answer = r; text = proof'; table = table'; store = store' }

    Same : Type 0
    Same = (proof' ≡ proof) × ((table' ≡ replicate t (pos 0)) × (store' ≡ replicate s (pos 0)))

    so : {a : TrimAnswer} → left ≡ untouched t s proof a → Same
    so q = (ap (λ (x : TrimLeft). x.text) q, (ap (λ (x : TrimLeft). x.table) q, ap (λ (x : TrimLeft). x.store) q))

    read : (ws : List InputRule) (d : StepsRead) → left ≡ trimmed_read t s proof ws d → Same
    read ws (Texts.refused ts k n) q = so q
    read ws (steps ts) q = on (accepted s ws ts) q
      where
        on : (b : Bool) → left ≡ cond b (trimmed_to t s proof ws (trimmed_steps s ws ts)) (untouched t s proof (Err (Service NotAccepted))) → Same
        on true q = absurd (f _ (ap (λ (x : TrimLeft). x.answer) q))
        on false q = so q

    by : (d : Reading) → left ≡ trimmed_reading t s proof d → Same
    by (Reading.refused k n) q = so q
    by (program ws) q = read ws (steps_of proof) q
