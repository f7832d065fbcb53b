-- What is claimed of costs and of the restriction; proofs/Sums.antt, proofs/Restriction.antt and proofs/Order.antt prove it.
-- Assumes nothing.
use Rattle.std.specs.Prelude.{◌≡◌, ◌↔◌, true, List, [], ◌∷◌, ℕ, ◌≤◌}
use Rattle.words.specs.Lists.{◌∈◌}
use Rattle.words.specs.Literals.{distinct}
use Rattle.weights.specs.Weights.{literals}
use Rattle.weights.specs.Claims.{Reorder}
use Rattle.aspif.specs.Rules.{Rule, expand}
use Rattle.aspif.specs.AnswerSets.{Met}
use Rattle.marks.specs.Marks.{listed}
use Rattle.answer_set.specs.Claims.{Listed}
use Rattle.costs.specs.Costs.{Cost, total, Costs, restriction}

-- What a set costs

-- a set has one cost at most
abbrev pub CostUnique : Type 1
CostUnique = (M : ℕ → Type 0) (ks : List Cost) (c d : ℕ) → Costs M ks c → Costs M ks d → c ≡ d

-- and not not one: no answer set escapes what is said of its cost
abbrev pub CostDecided : Type 1
CostDecided = (M : ℕ → Type 0) (ks : List Cost) → ¬ (¬ ((c : ℕ) × Costs M ks c))

-- a set that is listed costs `total`, and nothing else
abbrev pub CostListed : Type 0
CostListed = (l : List ℕ) (ks : List Cost) (c : ℕ) → Costs (Listed l) ks c ↔ (c ≡ total (listed l) ks)

-- the order of the pairs makes no difference to the cost
abbrev pub CostReordered : Type 1
CostReordered = (M : ℕ → Type 0) (ks js : List Cost) (c : ℕ) → Reorder ks js → Costs M ks c → Costs M js c

-- The restriction

-- "so that a cost of C or more breaks it": some plain rule of the restriction is met exactly where the cost is C or more
abbrev pub RestrictionMeans : Type 1
RestrictionMeans =
    (M : ℕ → Type 0) (ks : List Cost) (C c : ℕ) → distinct (literals ks) ≡ true → Costs M ks c
    → ((r : Rule) × (r ∈ expand (restriction ks C ∷ [])) × Met M r) ↔ (C ≤ c)

-- the order of the pairs makes no difference to the rule
abbrev pub RestrictionReordered : Type 0
RestrictionReordered =
    (ks js : List Cost) (C : ℕ) → distinct (literals ks) ≡ true → Reorder ks js → restriction ks C ≡ restriction js C
