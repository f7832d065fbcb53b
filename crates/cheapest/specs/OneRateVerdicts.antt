-- How far the totals of two passing verdicts can be apart when one cost moves: document 02, Change 13.
-- proofs/OneRateVerdicts.antt proves what is claimed.
-- Assumes nothing.
use Rattle.std.specs.Prelude.{◌≡◌, Ok, List, ℕ, ◌+◌, ◌≤◌, ℤ, length}
use Rattle.std.proofs.Math.Option.{some}
use Rattle.weights.specs.Claims.{Reorder}
use Rattle.aspif.specs.Rules.{InputRule, expand}
use Rattle.aspif.specs.Reading.{program, read_text}
use Rattle.costs.specs.Costs.{Cost, costs_of}
use Rattle.costs.specs.OneRate.{Least, Differ}
use Rattle.cheapest.specs.Service.{cheapest, CheckedCheapest}

-- what a passing verdict returns is the least total
abbrev pub CheapestLeast : Type 1
CheapestLeast =
    (t s : ℕ) (text set : List ℕ) (costs : List ℤ) (proof : List ℕ) (C : ℕ) → (cheapest t s text set costs proof).answer ≡ Ok C
    → (ws : List InputRule) → read_text t text ≡ program ws → (ks : List Cost) → costs_of costs ≡ some ks → Least (expand ws) ks C

-- "any two of its passing verdicts for that program, one under each list": texts, tables, stores, sets and proofs may differ
abbrev pub OneRateVerdicts : Type 0
OneRateVerdicts =
    (ws : List InputRule) (ks js : List Cost) (D : ℕ) → Differ ks js D
    → (t s : ℕ) (text set : List ℕ) (costs : List ℤ) (proof : List ℕ) (C : ℕ) → read_text t text ≡ program ws → costs_of costs ≡ some ks
    → (cheapest t s text set costs proof).answer ≡ Ok C
    → (t' s' : ℕ) (text' set' : List ℕ) (costs' : List ℤ) (proof' : List ℕ) (E : ℕ) → read_text t' text' ≡ program ws → costs_of costs' ≡ some js
    → (cheapest t' s' text' set' costs' proof').answer ≡ Ok E
    → (C ≤ E + D) × (E ≤ C + D)

-- a call of the service that returned C, of a text that is read as these rules and costs that are this list
pub record Returned (ws : List InputRule) (ks : List Cost) (C : ℕ) : Type 0 where
  pub text : List ℕ
  pub set : List ℕ
  pub costs : List ℤ
  pub proof : List ℕ
  pub table : List ℤ
  pub store : List ℤ
  pub table' : List ℤ
  pub store' : List ℤ
  pub read : read_text (length table) text ≡ program ws
  pub lent : costs_of costs ≡ some ks
  pub checked : CheckedCheapest text set costs proof table store table' store' (Ok C)

-- the same of the service, by its contract, for any two such calls
abbrev pub OneRateService : Type 0
OneRateService =
    (ws : List InputRule) (ks js : List Cost) (D C E : ℕ) → Differ ks js D → Returned ws ks C → Returned ws js E
    → (C ≤ E + D) × (E ≤ C + D)

-- Verdicts under lists of which the one has its pairs in another order

abbrev pub OneRateVerdictsReordered : Type 0
OneRateVerdictsReordered =
    (ws : List InputRule) (ks is js : List Cost) (D : ℕ) → Differ ks is D → Reorder is js
    → (t s : ℕ) (text set : List ℕ) (costs : List ℤ) (proof : List ℕ) (C : ℕ) → read_text t text ≡ program ws → costs_of costs ≡ some ks
    → (cheapest t s text set costs proof).answer ≡ Ok C
    → (t' s' : ℕ) (text' set' : List ℕ) (costs' : List ℤ) (proof' : List ℕ) (E : ℕ) → read_text t' text' ≡ program ws → costs_of costs' ≡ some js
    → (cheapest t' s' text' set' costs' proof').answer ≡ Ok E
    → (C ≤ E + D) × (E ≤ C + D)

abbrev pub OneRateServiceReordered : Type 0
OneRateServiceReordered =
    (ws : List InputRule) (ks is js : List Cost) (D C E : ℕ) → Differ ks is D → Reorder is js → Returned ws ks C → Returned ws js E
    → (C ≤ E + D) × (E ≤ C + D)
