-- What a set costs, and the program restricted to lower costs: document 02, Change 12, and document 000, section 3.3. A set is any
-- predicate on numbers and need not be decided, so its cost is a relation.
-- Assumes nothing.
use Rattle.std.specs.Prelude.{◌≡◌, ◌⊎◌, Bool, cond, ◌&&◌, List, [], ◌∷◌, ◌++◌, ℕ, suc, ◌+◌, leb, ℤ, pos, negsuc, length}
use Rattle.std.proofs.Math.Option.{Option, none, some}
use Rattle.words.specs.Lists.{all}
use Rattle.words.specs.Literals.{variable, distinct}
use Rattle.weights.specs.Weights.{Weighted, literals, paired, most_weighted}
use Rattle.aspif.specs.Rules.{InputRule, weights}
use Rattle.aspif.specs.Reading.{all_weights, arranged}
use Rattle.aspif.specs.declared.Kind.TheVariants.{Normal}
use Rattle.answer_set.specs.SetTest.{held_sum}
use Rattle.derivation.specs.States.{is_atom}

-- "costs .. on .. literals": a literal with its cost, which is its weight
abbrev pub Cost : Type 0
Cost = Weighted

-- "each literal before its cost": the numbers two by two, none where the length is odd or a cost is not "of 0 to 4,095"
abbrev pub costs_of : List ℤ → Option (List Cost)
costs_of zs = cond (all_weights zs) (some (paired zs)) none

-- "on up to 12 literals over the program's atoms, no atom twice"
abbrev pub good_costs : (N : ℕ) → List Cost → Bool
good_costs N ks = leb (length ks) most_weighted && (all (λ k. is_atom N (variable k.literal)) ks && distinct (literals ks))

-- "the sum of the costs whose literals it makes true", of a set that is given as a test
abbrev pub total : (ℕ → Bool) → List Cost → ℕ
total M ks = held_sum M M ks

module _ (M : ℕ → Type 0) where
  -- "literals it makes true": v where it is in the set, -v where v is outside
  abbrev pub Holds : ℤ → Type 0
  Holds (pos v) = M v
  Holds (negsuc n) = ¬ M (suc n)

  -- the same sum, of any set: a literal that it makes true adds its cost, one that it makes false adds none
  abbrev pub Costs : List Cost → ℕ → Type 0
  Costs [] c = c ≡ 0
  Costs (k ∷ ks) c = (Holds k.literal × ((d : ℕ) × (c ≡ k.weight + d) × Costs ks d)) ⊎ ((¬ Holds k.literal) × Costs ks c)

-- "one constraint with a weight body: the cost literals with their costs, and bound C, so that a cost of C or more breaks it", its
-- literals ascending by atom
abbrev pub restriction : List Cost → (C : ℕ) → InputRule
restriction ks C = record { kind = Normal; heads = []; body = weights C (arranged ks) }

-- "the program restricted to lower costs". Questions 1, 9 and 10 are not put to the constraint.
abbrev pub restricted : List InputRule → List Cost → (C : ℕ) → List InputRule
restricted ws ks C = ws ++ (restriction ks C ∷ [])
