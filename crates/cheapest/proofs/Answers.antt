-- What the service leaves, from what its parts leave. Assumes nothing.
use mathlib.Core.Path.{◌≡◌, refl, sym, ◌∙◌, ap}
use mathlib.Core.Bool.{Bool, true, false, true≢false}
use mathlib.Core.Option.{some}
use mathlib.Core.List.{List}
use Prim.Native.Nat.{ℕ, ◌*◌, ◌≤◌, ◌<◌}
use native.Mathlib.Omega.{arith}
use borrow.Author.Tests.{le-leb, lt-leb, ne_eqb}
use lib.IntN.{ℤ, pos}
use lib.ListN.{length, replicate}
use Rattle.words.specs.Lists.{ascends}
use Rattle.weights.specs.Weights.{paired, most_weight, most_weighted}
use Rattle.aspif.specs.Rules.{InputRule, atoms, table_words}
use Rattle.aspif.specs.Reading.{Reading, program, read_text, all_weights, program_answer, table_of}
use Rattle.aspif.specs.declared.ProgramCounts.{ProgramCounts}
use Rattle.aspif.specs.declared.ProgramRefusal.{ProgramRefusal}
use Rattle.aspif.specs.Tables.{sound_table, rules_of}
use Rattle.aspif.proofs.PairWords.{length-paired}
use Rattle.marks.specs.Marks.{listed}
use Rattle.answer_set.specs.SetTest.{SetVerdict, yes, differs, breaks, verdict_of, said_of, asked, set_answer}
use Rattle.derivation.specs.Steps.{empty_live}
use Rattle.names.specs.Queries.{HoldsRules}
use Rattle.words.specs.Limits.{most_rules, entries}
use Rattle.runs.specs.Course.{Course, stopped, through}
use Rattle.checker.specs.Check.{is_inconsistent, Checked, judged}
use Rattle.checker.specs.declared.Verdict.{Verdict}
use Rattle.checker.proofs.Verdicts.{said-empty, unread}
use Rattle.costs.specs.Costs.{Cost, costs_of, good_costs, total, restricted}
use Rattle.cheapest.specs.Service.{is_yes, restricted_course, leaves_nothing, judged_proof, with_cost, with_costs, cheapest_reading, cheapest}
use Rattle.cheapest.specs.Private.{said_yes, ProofChecked}
use Rattle.std.specs.Prelude.{Result, Ok, Err}
use Rattle.aspif.specs.declared.Refusal.TheVariants.{Program, Service}
use Rattle.cheapest.specs.declared.CheapestFault.{CheapestFault}
use Rattle.cheapest.specs.declared.CheapestFault.TheVariants.{WrongSet, WrongCosts, NotCertified}

-- what is left of nothing, by the lengths that the caller knows
pub left-nothing : (t s : ℕ) {k : CheapestFault} {table store : List ℤ} → table ≡ replicate t (pos 0) → store ≡ replicate s (pos 0)
    → record { answer = Err (Service k); table = table; store = store } ≡ leaves_nothing t s (Err (Service k))
left-nothing t s a b = rw (a, b)

pub same-nothing : {t t' s s' : ℕ} (k : CheapestFault) → t ≡ t' → s ≡ s' → leaves_nothing t s (Err (Service k)) ≡ leaves_nothing t' s' (Err (Service k))
same-nothing k a b = rw (a, b)

-- The set

-- the rules that the table holds
pub rules-found : {table : List ℤ} {rules : ℕ} {ws : List InputRule} → rules ≤ most_rules → HoldsRules table rules ws → rules_of table rules ≡ some ws
unfolding sound_table
rules-found {table} {rules} h H = rw (le-leb rules most_rules h, H.sound, H.are)

-- of a table that holds the rules and a set that question 42 lets pass
pub set_tested : (table : List ℤ) (rules : ℕ) (l : List ℕ) (ws : List InputRule) (n : ℕ) → n ≡ entries → rules_of table rules ≡ some ws → ascends 0 (atoms ws) l ≡ true
    → said_yes (set_answer l (asked table rules l n)) ≡ is_yes (verdict_of (listed l) ws)
unfolding asked
set_tested table rules l ws n m e a = rw (m, e, a) (said (verdict_of (listed l) ws))
  where
    said : (v : SetVerdict) → said_yes (Ok (said_of v)) ≡ is_yes v
    said yes = refl
    said (differs v) = refl
    said (breaks k) = refl

-- 63 of the proof

-- verdict and store do not hang on the table's length
pub judged-any : (t s : ℕ) (us : List InputRule) (c : Course) → ((judged t s us c).verdict ≡ (judged 0 s us c).verdict) × ((judged t s us c).store ≡ (judged 0 s us c).store)
judged-any t s us (stopped k n) = (refl, refl)
judged-any t s us (through n z b) = (refl, refl)

module _ (t s : ℕ) (ws us : List InputRule) (C : ℕ) where
  accepted-by : (c : Course) → true ≡ is_inconsistent (judged 0 s us c).verdict → {store : List ℤ} → store ≡ (judged 0 s us c).store → {table : List ℤ} → table ≡ table_words t ws
      → record { answer = Ok C; table = table; store = store } ≡ judged_proof t s ws C c
  accepted-by (stopped k n) e f g = absurd (true≢false e)
  accepted-by (through n z b) e f g = let l : empty_live z ≡ true = sym (e ∙ said-empty 0 s us (through n z b)) in rw (l, f, g) refl

  refused-by : (c : Course) → false ≡ is_inconsistent (judged 0 s us c).verdict → leaves_nothing t s (Err (Service NotCertified)) ≡ judged_proof t s ws C c
  refused-by (stopped k n) e = refl
  refused-by (through n z b) e = let l : empty_live z ≡ false = sym (e ∙ said-empty 0 s us (through n z b)) in rw l refl

module _ (t s : ℕ) (ws : List InputRule) (ks : List Cost) (C : ℕ) (proof : List ℕ) where
  abbrev came : Course
  came = restricted_course s ws ks C proof

  pub proof-accepted : {store table : List ℤ} {r : Bool} → ProofChecked s ws ks C proof store r → r ≡ true → table ≡ table_words t ws
      → record { answer = Ok C; table = table; store = store } ≡ judged_proof t s ws C came
  proof-accepted p e g = accepted-by t s ws (restricted ws ks C) C came (sym e ∙ p.answer) p.left g

  pub proof-refused : {store : List ℤ} {r : Bool} → ProofChecked s ws ks C proof store r → r ≡ false
      → leaves_nothing t s (Err (Service NotCertified)) ≡ judged_proof t s ws C came
  proof-refused p e = refused-by t s ws (restricted ws ks C) C came (sym e ∙ p.answer)

  pub checked-by : (T : ℕ) {v : Verdict} {table store : List ℤ} {r : Bool} → record { verdict = v; table = table; store = store } ≡ judged T s (restricted ws ks C) came
      → r ≡ is_inconsistent v → ProofChecked s ws ks C proof store r
  checked-by T e q =
      let j = judged-any T s (restricted ws ks C) came in
      record { answer = q ∙ ap is_inconsistent (ap (λ (x : Checked). x.verdict) e ∙ j.0); left = ap (λ (x : Checked). x.store) e ∙ j.1 }

-- 62 of the cost, and 63 of the set

module _ (t s : ℕ) (ws : List InputRule) (set : List ℕ) (ks : List Cost) (C : ℕ) (proof : List ℕ) where
  pub too-dear : most_weight < C → leaves_nothing t s (Err (Service WrongCosts)) ≡ with_cost t s ws set ks C proof
  too-dear h = rw (lt-leb C most_weight h)

  module _ (h : C ≤ most_weight) where
    pub no-answer-set : is_yes (verdict_of (listed set) ws) ≡ false → leaves_nothing t s (Err (Service NotCertified)) ≡ with_cost t s ws set ks C proof
    no-answer-set e = rw (le-leb C most_weight h, e)

    module _ (y : is_yes (verdict_of (listed set) ws) ≡ true) where
      pub costs-nothing : {table store : List ℤ} → C ≡ 0 → table ≡ table_words t ws → store ≡ replicate s (pos 0)
          → record { answer = Ok 0; table = table; store = store } ≡ with_cost t s ws set ks C proof
      costs-nothing e g z = rw (le-leb C most_weight h, y, e, g, z)

      pub with-proof : ¬ (C ≡ 0) → judged_proof t s ws C (restricted_course s ws ks C proof) ≡ with_cost t s ws set ks C proof
      with-proof n = rw (le-leb C most_weight h, y, ne_eqb C 0 n)

-- 62 of the list

module _ (t s : ℕ) (ws : List InputRule) (set : List ℕ) (zs : List ℤ) (proof : List ℕ) where
  pub no-costs : all_weights zs ≡ false → leaves_nothing t s (Err (Service WrongCosts)) ≡ with_costs t s ws set (costs_of zs) proof
  no-costs e = rw e

  pub bad-costs : all_weights zs ≡ true → good_costs (atoms ws) (paired zs) ≡ false → leaves_nothing t s (Err (Service WrongCosts)) ≡ with_costs t s ws set (costs_of zs) proof
  bad-costs e g = rw (e, g)

  pub good-costs : all_weights zs ≡ true → good_costs (atoms ws) (paired zs) ≡ true
      → with_cost t s ws set (paired zs) (total (listed set) (paired zs)) proof ≡ with_costs t s ws set (costs_of zs) proof
  good-costs e g = rw (e, g)

  -- more than 12 pairs
  pub too_many : 2 * most_weighted < length zs → leaves_nothing t s (Err (Service WrongCosts)) ≡ with_costs t s ws set (costs_of zs) proof
  too_many h = by (all_weights zs) refl
    where
      by : (b : Bool) → all_weights zs ≡ b → leaves_nothing t s (Err (Service WrongCosts)) ≡ with_costs t s ws set (costs_of zs) proof
      by false e = no-costs e
      by true e = bad-costs e (rw (lt-leb (length (paired zs)) most_weighted (omega (arith, h, length-paired zs e))))

-- 42

module _ (t s : ℕ) (ws : List InputRule) (set : List ℕ) (costs : List ℤ) (proof : List ℕ) where
  pub no-set : ascends 0 (atoms ws) set ≡ false → leaves_nothing t s (Err (Service WrongSet)) ≡ cheapest_reading t s set costs proof (program ws)
  no-set e = rw e

  pub with-set : ascends 0 (atoms ws) set ≡ true → with_costs t s ws set (costs_of costs) proof ≡ cheapest_reading t s set costs proof (program ws)
  with-set e = rw e

-- The program

module _ (t s : ℕ) (text set : List ℕ) (costs : List ℤ) (proof : List ℕ) {r : Result ProgramCounts ProgramRefusal} (answer : r ≡ program_answer (read_text t text)) {table : List ℤ} (words : table ≡ table_of t (read_text t text)) where
  pub program-unread : (x : ProgramRefusal) {store : List ℤ} → r ≡ Err x → store ≡ replicate s (pos 0)
      → record { answer = Err (Program x); table = table; store = store } ≡ cheapest t s text set costs proof
  unfolding cheapest
  program-unread x {store} e z =
      unread t text answer words (cheapest_reading t s set costs proof) (λ q l. record { answer = Err (Program q); table = l; store = store }) (λ k n. rw z refl) x e

  pub cheapest-read : (ws : List InputRule) → read_text t text ≡ program ws → cheapest_reading t s set costs proof (program ws) ≡ cheapest t s text set costs proof
  unfolding cheapest
  cheapest-read ws e = rw e

pub reading-same : (set : List ℕ) (costs : List ℤ) (proof : List ℕ) (r : Reading) {t t' s s' : ℕ} → t ≡ t' → s ≡ s'
    → cheapest_reading t s set costs proof r ≡ cheapest_reading t' s' set costs proof r
reading-same set costs proof r a b = rw (a, b)
