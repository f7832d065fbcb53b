-- How far one changed cost moves what a passing verdict returns. Assumes nothing.
use mathlib.Core.Path.{◌≡◌, sym, ◌∙◌, ap, subst}
use mathlib.Core.Option.{Option, some}
use mathlib.Core.List.{List}
use Prim.Native.Nat.{ℕ}
use lib.ListN.{length}
use Rattle.aspif.specs.Rules.{InputRule, expand}
use Rattle.aspif.specs.Reading.{Reading, program}
use Rattle.answer_set.specs.Claims.{Listed}
use Rattle.costs.specs.Costs.{Cost}
use Rattle.costs.specs.OneRate.{Least}
use Rattle.costs.proofs.OneRate.{one-rate, one-rate-reordered}
use Rattle.cheapest.specs.Service.{CheapestLeft}
use Rattle.cheapest.specs.OneRateVerdicts.{CheapestLeast, OneRateVerdicts, Returned, OneRateService, OneRateVerdictsReordered, OneRateServiceReordered}
use Rattle.cheapest.proofs.Verdicts.{none-cheaper}

-- the same rules, and the same costs
same-program : (ws us : List InputRule) → ◌≡◌ {A = Reading} (program ws) (program us) → ws ≡ us
same-program ws us e = cc

same-costs : (ks js : List Cost) → ◌≡◌ {A = Option (List Cost)} (some ks) (some js) → ks ≡ js
same-costs ks js e = cc

pub cheapest-least : CheapestLeast
cheapest-least t s text set costs proof C e ws q ks p =
    let r = none-cheaper t s text set costs proof C e in
    let n = r.4 in
    subst (λ us. Least (expand us) ks C) (same-program r.0 ws (sym r.2 ∙ q))
    (subst (λ js. Least (expand r.0) js C) (same-costs r.1 ks (sym r.3 ∙ p)) ((Listed set, (n.answers, n.costs)), n.least))

pub one-rate-verdicts : OneRateVerdicts
one-rate-verdicts ws ks js D d t s text set costs proof C q p e t' s' text' set' costs' proof' E q' p' e' =
    one-rate (expand ws) ks js D C E d (cheapest-least t s text set costs proof C e ws q ks p) (cheapest-least t' s' text' set' costs' proof' E e' ws q' js p')

-- what a call returned is the least total
returned-least : {ws : List InputRule} {ks : List Cost} {C : ℕ} → Returned ws ks C → Least (expand ws) ks C
returned-least {ws} {ks} {C} r =
    cheapest-least (length r.table) (length r.store) r.text r.set r.costs r.proof C
    (sym (ap (λ (x : CheapestLeft). x.answer) r.checked)) ws r.read ks r.lent

pub one-rate-service : OneRateService
one-rate-service ws ks js D C E d a b = one-rate (expand ws) ks js D C E d (returned-least a) (returned-least b)

pub one-rate-verdicts-reordered : OneRateVerdictsReordered
one-rate-verdicts-reordered ws ks is js D d r t s text set costs proof C q p e t' s' text' set' costs' proof' E q' p' e' =
    one-rate-reordered (expand ws) ks is js D C E d r (cheapest-least t s text set costs proof C e ws q ks p)
    (cheapest-least t' s' text' set' costs' proof' E e' ws q' js p')

pub one-rate-service-reordered : OneRateServiceReordered
one-rate-service-reordered ws ks is js D C E d r a b = one-rate-reordered (expand ws) ks is js D C E d r (returned-least a) (returned-least b)
