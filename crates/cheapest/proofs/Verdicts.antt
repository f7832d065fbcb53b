-- What a passing verdict means: the set is an answer set, and no answer set costs less. Assumes nothing.
use mathlib.Core.Path.{◌≡◌, refl, sym, ◌∙◌, ap, subst}
use mathlib.Core.Bool.{Bool, true, false, cond, true≢false}
use mathlib.Core.Option.{Option, none, some}
use mathlib.Core.List.{List, [], ◌∷◌, ◌++◌}
use Prim.Native.Nat.{ℕ}
use borrow.Author.Tests.{eqb-true}
use lib.Dec.{eqb, leb}
use lib.IntN.{ℤ, pos}
use lib.ListN.{length, replicate}
use Rattle.words.specs.Lists.{◌∈◌, ascends}
use Rattle.words.specs.Literals.{variable, distinct}
use Rattle.words.proofs.Lists.{zero_one, itself, all-decides, same_test}
use Rattle.weights.specs.Weights.{literals, most_weight}
use Rattle.weights.specs.Claims.{Reorder}
use Rattle.weights.proofs.Reordered.{and-back, reorder-in, reorder-length, reorder-map, reorder-distinct}
use Rattle.aspif.specs.Rules.{InputRule, expand, atoms, table_words}
use Rattle.aspif.specs.Reading.{Reading, program, read_text}
use Rattle.aspif.proofs.Formed.{read_fits}
use Rattle.aspif.proofs.Readable.{table-back}
use Rattle.marks.specs.Marks.{listed}
use Rattle.answer_set.specs.SetTest.{SetVerdict, yes, differs, breaks, verdict_of}
use Rattle.answer_set.proofs.Answered.{yes-answer-set}
use Rattle.derivation.specs.States.{is_atom}
use Rattle.derivation.specs.Steps.{empty_live}
use Rattle.derivation.specs.Claims.{NoneAsWritten}
use Rattle.nogoods.specs.Store.{store_words}
use Rattle.runs.specs.Course.{Course, stopped, through, course, ends_empty}
use Rattle.checker.proofs.Whole.{accepted-none}
use Rattle.checker.proofs.Verdicts.{lines-read}
use Rattle.costs.specs.Costs.{Cost, costs_of, good_costs, total, restricted}
use Rattle.costs.proofs.Sums.{cost-listed, cost-reordered}
use Rattle.costs.proofs.Order.{restriction-reordered}
use Rattle.costs.proofs.NoneBelow.{none_below, none-below-with}
use Rattle.cheapest.specs.Service.{CheapestAnswer, is_yes, restricted_course, CheapestLeft, leaves_nothing, passing, judged_proof, with_proof, with_cost, with_costs, cheapest_reading, cheapest}
use Rattle.cheapest.specs.Claims.{NoCheaper, NoneCheaper, ServiceNoneCheaper, CheapestReordered}
use Rattle.cheapest.proofs.Words.{good-distinct}
use Rattle.aspif.specs.declared.Refusal.{Refusal}
use Rattle.aspif.specs.declared.Refusal.TheVariants.{Service}
use Rattle.cheapest.specs.declared.CheapestFault.{CheapestFault}
use Rattle.cheapest.specs.declared.CheapestFault.TheVariants.{WrongSet, WrongCosts, NotCertified}
use Rattle.std.specs.Prelude.{Ok, Err}

-- What a passing outcome tells

pub record Passes (set : List ℕ) (costs : List ℤ) (C : ℕ) (r : Reading) : Type 1 where
  pub ws : List InputRule
  pub ks : List Cost
  pub read : r ≡ program ws
  pub lent : costs_of costs ≡ some ks
  pub ascending : ascends 0 (atoms ws) set ≡ true
  pub good : good_costs (atoms ws) ks ≡ true
  pub answered : verdict_of (listed set) ws ≡ yes
  pub cost : C ≡ total (listed set) ks
  pub none : ¬ (C ≡ 0) → NoneAsWritten (restricted ws ks C)

module _ (t s : ℕ) (set : List ℕ) (costs : List ℤ) (proof : List ℕ) (C : ℕ) where
  refusal : (r : Refusal CheapestFault) → ◌≡◌ {A = CheapestAnswer} (Err r) (Ok C) → ⊥
  refusal r e = zero_one (cc)

  judged-passes : (ws : List InputRule) (ks : List Cost) (D : ℕ) (o : Course)
      → restricted_course s ws ks D proof ≡ o → (judged_proof t s ws D o).answer ≡ Ok C
      → (D ≡ C) × NoneAsWritten (restricted ws ks D)
  judged-passes ws ks D (stopped k n) q e = absurd (refusal _ e)
  judged-passes ws ks D (through n z b) q e = by (empty_live z) refl e
    where
      by : (l : Bool) → empty_live z ≡ l → (cond l (passing t s ws D (store_words s b)) (leaves_nothing t s (Err (Service NotCertified)))).answer ≡ Ok C
          → (D ≡ C) × NoneAsWritten (restricted ws ks D)
      by true l e = (cc, accepted-none s (restricted ws ks D) proof (ap ends_empty q ∙ l))
      by false l e = absurd (refusal _ e)

  proof-passes : (ws : List InputRule) (ks : List Cost) (D : ℕ) → (with_proof t s ws ks D proof).answer ≡ Ok C
      → (C ≡ D) × (¬ (C ≡ 0) → NoneAsWritten (restricted ws ks C))
  proof-passes ws ks D e = by (eqb D 0) refl e
    where
      o : Course
      o = restricted_course s ws ks D proof

      by : (z : Bool) → eqb D 0 ≡ z → (cond z (passing t s ws 0 (replicate s (pos 0))) (judged_proof t s ws D o)).answer ≡ Ok C
          → (C ≡ D) × (¬ (C ≡ 0) → NoneAsWritten (restricted ws ks C))
      by true q e = let c : 0 ≡ C = cc in (sym c ∙ sym (eqb-true D 0 q), λ n. absurd (n (sym c)))
      by false q e =
          let j = judged-passes ws ks D o refl e in
          (sym j.0, λ n. subst (λ m. NoneAsWritten (restricted ws ks m)) j.0 j.1)

  is-yes : (v : SetVerdict) → is_yes v ≡ true → v ≡ yes
  is-yes yes e = refl
  is-yes (differs v) e = absurd (true≢false (sym e))
  is-yes (breaks k) e = absurd (true≢false (sym e))

  passes : (r : Reading) → (cheapest_reading t s set costs proof r).answer ≡ Ok C → Passes set costs C r
  passes (Reading.refused k n) e = absurd (zero_one (cc))
  passes (program ws) e = in_order (ascends 0 (atoms ws) set) refl e
    where
      with-cost : (ks : List Cost) → costs_of costs ≡ some ks → ascends 0 (atoms ws) set ≡ true → good_costs (atoms ws) ks ≡ true
          → (a : Bool) → (b : Bool) → is_yes (verdict_of (listed set) ws) ≡ b
          → (cond a (cond b (with_proof t s ws ks (total (listed set) ks) proof) (leaves_nothing t s (Err (Service NotCertified)))) (leaves_nothing t s (Err (Service WrongCosts)))).answer ≡ Ok C
          → Passes set costs C (program ws)
      with-cost ks l u g true true y e =
          let p = proof-passes ws ks (total (listed set) ks) e in
          record {
            ws = ws;
            ks = ks;
            read = refl;
            lent = l;
            ascending = u;
            good = g;
            answered = is-yes (verdict_of (listed set) ws) y;
            cost = p.0;
            none = p.1;
          }
      with-cost ks l u g true false y e = absurd (refusal _ e)
      with-cost ks l u g false b y e = absurd (refusal _ e)

      with-costs : ascends 0 (atoms ws) set ≡ true → (o : Option (List Cost)) → costs_of costs ≡ o → (with_costs t s ws set o proof).answer ≡ Ok C
          → Passes set costs C (program ws)
      with-costs u none l e = absurd (refusal _ e)
      with-costs u (some ks) l e = by (good_costs (atoms ws) ks) refl e
        where
          by : (g : Bool) → good_costs (atoms ws) ks ≡ g → (cond g (with_cost t s ws set ks (total (listed set) ks) proof) (leaves_nothing t s (Err (Service WrongCosts)))).answer ≡ Ok C
              → Passes set costs C (program ws)
          by true g e = with-cost ks l u g (leb (total (listed set) ks) most_weight) (is_yes (verdict_of (listed set) ws)) refl e
          by false g e = absurd (refusal _ e)

      in_order : (a : Bool) → ascends 0 (atoms ws) set ≡ a → (cond a (with_costs t s ws set (costs_of costs) proof) (leaves_nothing t s (Err (Service WrongSet)))).answer ≡ Ok C
          → Passes set costs C (program ws)
      in_order true u e = with-costs u (costs_of costs) refl e
      in_order false u e = absurd (refusal _ e)

no-cheaper : (t : ℕ) (text set : List ℕ) (costs : List ℤ) (C : ℕ) (p : Passes set costs C (read_text t text)) → NoCheaper p.ws p.ks set C
no-cheaper t text set costs C p =
    let d = good-distinct (atoms p.ws) p.ks p.good in
    let fits = read_fits t text p.ws (lines-read t text p.ws p.read) in
    record {
      answers =
          (yes-answer-set (table_words t p.ws) (length p.ws) set p.ws
          (record { readable = table-back t p.ws fits; ascending = p.ascending })).0 p.answered;
      costs = (cost-listed set p.ks C).1 p.cost;
      least = none_below p.ws p.ks C d p.none;
      further = none-below-with p.ws p.ks C d p.none;
    }

pub none-cheaper : NoneCheaper
unfolding cheapest
none-cheaper t s text set costs proof C e =
    let p = passes t s set costs proof C (read_text t text) e in
    (p.ws, p.ks, p.read, p.lent, no-cheaper t text set costs C p)

pub service-none-cheaper : ServiceNoneCheaper
service-none-cheaper text set costs proof table store table' store' C e =
    none-cheaper (length table) (length store) text set costs proof C (sym (ap (λ (x : CheapestLeft). x.answer) e))

-- Pairs in another order

module _ {ks js : List Cost} (r : Reorder ks js) where
  total-reordered : (l : List ℕ) → total (listed l) ks ≡ total (listed l) js
  total-reordered l =
      (cost-listed l js (total (listed l) ks)).0 (cost-reordered (λ v. v ∈ l) ks js (total (listed l) ks) r ((cost-listed l ks (total (listed l) ks)).1 refl))

  good-reordered : (N : ℕ) → good_costs N ks ≡ good_costs N js
  good-reordered N =
      rw (
        reorder-length r,
        same_test (all-decides (λ k. itself (is_atom N (variable k.literal))) ks) (all-decides (λ k. itself (is_atom N (variable k.literal))) js)
            (λ f k i. f k (reorder-in (and-back r) i)) (λ f k i. f k (reorder-in r i)),
        reorder-distinct (reorder-map (λ k. k.literal) r),
      )

pub cheapest-reordered : CheapestReordered
unfolding cheapest
cheapest-reordered t s text set costs costs' proof ks js p q r = by (read_text t text)
  where
    proofs : (ws : List InputRule) → distinct (literals ks) ≡ true → (D : ℕ) → with_proof t s ws ks D proof ≡ with_proof t s ws js D proof
    proofs ws d D =
        ap (λ (x : InputRule). let us = ws ++ (x ∷ []) in
        cond (eqb D 0) (passing t s ws 0 (replicate s (pos 0))) (judged_proof t s ws D (course (atoms us) (expand us) s proof)))
        (restriction-reordered ks js D d r)

    good : (ws : List InputRule) (g : Bool) → good_costs (atoms ws) ks ≡ g
        → cond g (with_cost t s ws set ks (total (listed set) ks) proof) (leaves_nothing t s (Err (Service WrongCosts)))
        ≡ cond g (with_cost t s ws set js (total (listed set) js) proof) (leaves_nothing t s (Err (Service WrongCosts)))
    good ws true g =
        rw (← total-reordered r set)
        (ap (λ (x : CheapestLeft). cond (leb (total (listed set) ks) most_weight) (cond (is_yes (verdict_of (listed set) ws)) x (leaves_nothing t s (Err (Service NotCertified)))) (leaves_nothing t s (Err (Service WrongCosts))))
        (proofs ws (good-distinct (atoms ws) ks g) (total (listed set) ks)))
    good ws false g = refl

    by : (o : Reading) → cheapest_reading t s set costs proof o ≡ cheapest_reading t s set costs' proof o
    by (Reading.refused k n) = refl
    by (program ws) =
        rw (p, q, ← good-reordered r (atoms ws))
        (ap (λ (x : CheapestLeft). cond (ascends 0 (atoms ws) set) x (leaves_nothing t s (Err (Service WrongSet)))) (good ws (good_costs (atoms ws) ks) refl))
