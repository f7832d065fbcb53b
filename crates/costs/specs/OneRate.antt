-- How far the cheapest total can go when one cost moves: document 02, Change 13. Of every list of rules, read or not, but for the last.
-- proofs/OneRate.antt proves what is claimed, proofs/Found.antt the last.
-- Assumes nothing.
use Rattle.std.specs.Prelude.{◌≡◌, List, ◌∷◌, ℕ, ◌+◌, ◌≤◌, ℤ}
use Rattle.std.proofs.Math.Option.{some}
use Rattle.weights.specs.Claims.{Reorder}
use Rattle.aspif.specs.Rules.{Rule, InputRule, expand}
use Rattle.aspif.specs.AnswerSets.{AnswerSet}
use Rattle.aspif.specs.Tables.{rules_of}
use Rattle.costs.specs.Costs.{Cost, Costs}

-- C is the least total: some answer set costs C, and none costs less
abbrev pub Least : List Rule → List Cost → ℕ → Type 1
Least P ks C =
    ((M : ℕ → Type 0) × (AnswerSet M P × Costs M ks C)) × ((M : ℕ → Type 0) → AnswerSet M P → (c : ℕ) → Costs M ks c → C ≤ c)

-- "two cost lists that differ in just one cost by D", or by no more
pub data Differ : List Cost → List Cost → ℕ → Type 0 where
  here : (l : ℤ) (w u D : ℕ) (ks : List Cost) → w ≤ u + D → u ≤ w + D
      → Differ (record { literal = l; weight = w } ∷ ks) (record { literal = l; weight = u } ∷ ks) D
  later : {ks js : List Cost} {D : ℕ} (k : Cost) → Differ ks js D → Differ (k ∷ ks) (k ∷ js) D

-- "the two least totals differ by at most D"
abbrev pub OneRate : Type 1
OneRate = (P : List Rule) (ks js : List Cost) (D C E : ℕ) → Differ ks js D → Least P ks C → Least P js E → (C ≤ E + D) × (E ≤ C + D)

-- the same where the pairs of the one list stand in another order
abbrev pub OneRateReordered : Type 1
OneRateReordered =
    (P : List Rule) (ks is js : List Cost) (D C E : ℕ) → Differ ks is D → Reorder is js → Least P ks C → Least P js E
    → (C ≤ E + D) × (E ≤ C + D)

-- the least total is one number
abbrev pub LeastUnique : Type 1
LeastUnique = (P : List Rule) (ks : List Cost) (C E : ℕ) → Least P ks C → Least P ks E → C ≡ E

-- "For a program with an answer set": it has, not not, a least total. No more is said of every list of rules, since an answer set of one
-- need not be decided.
abbrev pub LeastExists : Type 1
LeastExists = (P : List Rule) (ks : List Cost) (M : ℕ → Type 0) → AnswerSet M P → ¬ (¬ ((C : ℕ) × Least P ks C))

-- of a program that was read a least total is found: there are finitely many sets of its atoms, and the set test decides each
abbrev pub LeastFound : Type 1
LeastFound =
    (table : List ℤ) (rules : ℕ) (ws : List InputRule) → rules_of table rules ≡ some ws
    → (ks : List Cost) (M : ℕ → Type 0) → AnswerSet M (expand ws) → (C : ℕ) × Least (expand ws) ks C
