-- What is claimed of the service; proofs/Verdicts.antt proves it.
-- Assumes nothing.
use Rattle.std.specs.Prelude.{◌≡◌, Ok, List, ◌++◌, ℕ, ◌≤◌, ℤ, length}
use Rattle.std.proofs.Math.Option.{some}
use Rattle.words.specs.Lists.{◌∈◌}
use Rattle.weights.specs.Claims.{Reorder}
use Rattle.aspif.specs.Rules.{InputRule, expand}
use Rattle.aspif.specs.Reading.{program, read_text}
use Rattle.aspif.specs.AnswerSets.{AnswerSet}
use Rattle.answer_set.specs.Claims.{Listed}
use Rattle.derivation.specs.Claims.{WrittenConstraint}
use Rattle.costs.specs.Costs.{Cost, costs_of, Costs}
use Rattle.cheapest.specs.Service.{cheapest, CheckedCheapest}

-- "the set is an answer set and .. no answer set costs less than C": nor does one of the program with any further constraints. A set is
-- any predicate on numbers.
pub record NoCheaper (ws : List InputRule) (ks : List Cost) (l : List ℕ) (C : ℕ) : Type 1 where
  pub answers : AnswerSet (Listed l) (expand ws)
  pub costs : Costs (Listed l) ks C
  pub least : (M : ℕ → Type 0) → AnswerSet M (expand ws) → (c : ℕ) → Costs M ks c → C ≤ c
  pub further : (more : List InputRule) → ((r : InputRule) → r ∈ more → WrittenConstraint r)
      → (M : ℕ → Type 0) → AnswerSet M (expand (ws ++ more)) → (c : ℕ) → Costs M ks c → C ≤ c

-- "A passing verdict returns C and means that ..": of the program that was read and the costs that were lent
abbrev pub NoneCheaper : Type 1
NoneCheaper =
    (t s : ℕ) (text set : List ℕ) (costs : List ℤ) (proof : List ℕ) (C : ℕ) → (cheapest t s text set costs proof).answer ≡ Ok C
    → (ws : List InputRule) × (ks : List Cost) × (read_text t text ≡ program ws) × (costs_of costs ≡ some ks) × NoCheaper ws ks set C

-- the same of the service, by its contract, whatever it is lent
abbrev pub ServiceNoneCheaper : Type 1
ServiceNoneCheaper =
    (text set : List ℕ) (costs : List ℤ) (proof : List ℕ) (table store table' store' : List ℤ) (C : ℕ)
    → CheckedCheapest text set costs proof table store table' store' (Ok C)
    → (ws : List InputRule) × (ks : List Cost) × (read_text (length table) text ≡ program ws) × (costs_of costs ≡ some ks)
    × NoCheaper ws ks set C

-- the order of the pairs makes no difference to what is answered and left
abbrev pub CheapestReordered : Type 0
CheapestReordered =
    (t s : ℕ) (text set : List ℕ) (costs costs' : List ℤ) (proof : List ℕ) (ks js : List Cost)
    → costs_of costs ≡ some ks → costs_of costs' ≡ some js → Reorder ks js
    → cheapest t s text set costs proof ≡ cheapest t s text set costs' proof
