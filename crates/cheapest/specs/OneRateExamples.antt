-- Worked cases of specs/OneRateVerdicts.antt, with program B and proof Q of specs/Examples.antt; proofs/OneRateExamples.antt computes them.
-- Assumes nothing.
use Rattle.std.specs.Prelude.{◌≡◌, Ok, List, [], ◌∷◌, ℕ, pos}
use Rattle.costs.specs.Costs.{Cost}
use Rattle.costs.specs.OneRate.{Differ}
use Rattle.cheapest.specs.Service.{CheapestAnswer}
use Rattle.cheapest.specs.Examples.{answer_b, proof_q}

-- what the service answers of a set that holds the one atom, where 1 costs w and 2 costs u
abbrev pub of_costs : (atom w u : ℕ) → CheapestAnswer
of_costs v w u = answer_b (v ∷ []) (pos 1 ∷ pos w ∷ pos 2 ∷ pos u ∷ []) proof_q

abbrev pub list_of : (w u : ℕ) → List Cost
list_of w u = record { literal = pos 1; weight = w } ∷ record { literal = pos 2; weight = u } ∷ []

-- two calls that pass under lists that differ by D, with their totals
pub record Moves (v w u v' w' u' D C E : ℕ) : Type 0 where
  pub differ : Differ (list_of w u) (list_of w' u') D
  pub one : of_costs v w u ≡ Ok C
  pub other : of_costs v' w' u' ≡ Ok E

pub record WorkedOneRate : Type 0 where
  pub stays : Moves 1 3 5 1 3 4 1 3 3
  pub another-set : Moves 1 3 5 2 7 5 4 3 5
  -- the bound is reached
  pub reached : Moves 1 3 5 1 0 5 3 3 0
  pub equals : Moves 1 3 3 2 4 3 1 3 3
