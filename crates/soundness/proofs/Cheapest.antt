-- What a passing verdict on a cheapest answer set says of a program over its text: `cheapest-printed`, `only-cheapest`.
-- Assumes nothing.
use mathlib.Core.Path.{◌≡◌, refl, sym, ◌∙◌, ap, subst}
use mathlib.Core.Bool.{Bool, true, false, cond}
use mathlib.Core.Option.{none, some, some-injective}
use mathlib.Core.List.{List, ◌++◌}
use Prim.Native.Nat.{ℕ}
use lib.IntN.{ℤ}
use lib.ListN.{length}
use Rattle.words.specs.Lists.{◌∈◌}
use Rattle.words.proofs.Lists.{zero_one}
use Rattle.weights.specs.Weights.{Weighted, paired, pair_words}
use Rattle.weights.proofs.Matching.{paired_words}
use Rattle.aspif.specs.Rules.{InputRule}
use Rattle.aspif.specs.Reading.{all_weights}
use Rattle.aspif.specs.Text.{program_text}
use Rattle.aspif.proofs.PairWords.{words-paired}
use Rattle.aspif.proofs.Spelled.{read-spelled}
use Rattle.costs.specs.Costs.{costs_of}
use Rattle.cheapest.specs.Claims.{NoCheaper}
use Rattle.cheapest.proofs.Verdicts.{service-none-cheaper}
use Rattle.soundness.specs.Page.{IsCheapest, CheapestPrinted, OnlyCheapest}
use Rattle.soundness.proofs.Direct.{plain-set, direct-set}
use Rattle.soundness.proofs.Orders.{sorted-set, written-set, sorted-with}
use Rattle.soundness.proofs.Printed.{InOrder, read-in-order}

-- costs that are taken are the words of their pairs
lent-words : (costs : List ℤ) (ks : List Weighted) → costs_of costs ≡ some ks → costs ≡ pair_words ks
lent-words costs ks e = by (all_weights costs) refl e
  where
    by : (b : Bool) → all_weights costs ≡ b → cond b (some (paired costs)) none ≡ some ks → costs ≡ pair_words ks
    by true q e = sym (words-paired costs q) ∙ ap pair_words (some-injective (paired costs) ks e)
    by false q e = absurd (zero_one (cc))

same-pairs : (ks js : List Weighted) → pair_words ks ≡ pair_words js → ks ≡ js
same-pairs ks js e = sym (paired_words ks) ∙ ap paired e ∙ paired_words js

-- what is said of the rules in order holds of the rules as they are written
is-cheapest : {ws rs : List InputRule} {ks : List Weighted} {l : List ℕ} {C : ℕ} → InOrder ws rs → NoCheaper rs ks l C → IsCheapest ws ks l C
is-cheapest {ws} {ks = ks} {l = l} {C = C} o n =
    let m = subst (λ (vs : List InputRule). NoCheaper vs ks l C) o.rules n in
    record {
      answers = direct-set (λ v. v ∈ l) ws (written-set ws o.once (λ v. v ∈ l) m.answers);
      costs = m.costs;
      least = λ M S. m.least M (sorted-set ws o.once M (plain-set M ws S));
      further = λ us f M S. m.further us f M (sorted-with ws o.once M us (plain-set M (ws ++ us) S));
    }

pub cheapest-printed : CheapestPrinted
cheapest-printed ws l ks proof table store table' store' C e =
    let s = service-none-cheaper (program_text ws) l (pair_words ks) proof table store table' store' C e in
    let same : s.1 ≡ ks = same-pairs s.1 ks (sym (lent-words (pair_words ks) s.1 s.3)) in
    is-cheapest (read-in-order (length table) ws s.0 s.2) (subst (λ (js : List Weighted). NoCheaper s.0 js l C) same s.4)

pub only-cheapest : OnlyCheapest
only-cheapest text l costs proof table store table' store' C e =
    let s = service-none-cheaper text l costs proof table store table' store' C e in
    let r = read-spelled (length table) text s.0 s.2 in
    (r.ws, s.1, r.is, lent-words costs s.1 s.3)
