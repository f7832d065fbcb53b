-- What the definitions of Weights.antt mean, as statements; proofs/Minimal.antt, proofs/Reached.antt and proofs/Reordered.antt prove
-- them.
-- Assumes nothing.
use Rattle.std.specs.Prelude.{◌≡◌, ◌↔◌, Bool, true, List, [], ◌∷◌, ℕ, ◌≤◌, leb, ltb, ℤ}
use Rattle.words.specs.Lists.{◌∈◌, any, all, filter}
use Rattle.words.specs.Literals.{rising, ascending}
use Rattle.weights.specs.Weights.{Weighted, sum, literals, sublists, is_minimal, bodies}

infix 4 ◌⊑◌
-- s is a sublist of l: l with some elements taken out
pub data ◌⊑◌ {A : Type 0} : List A → List A → Type 0 where
  none : [] ⊑ []
  with_it : {x : A} {s l : List A} → s ⊑ l → x ∷ s ⊑ x ∷ l
  without : {x : A} {s l : List A} → s ⊑ l → s ⊑ x ∷ l

-- "subset-minimal": s reaches the bound and no proper sublist of it does
pub record Minimal (b : ℕ) (s : List Weighted) : Type 0 where
  pub reaches : b ≤ sum s
  pub least : (t : List Weighted) → t ⊑ s → ¬ (t ≡ s) → ¬ (b ≤ sum t)

-- what is kept are the sublists that are minimal
abbrev pub MinimalSets : Type 0
MinimalSets =
    (b : ℕ) (l s : List Weighted) → (s ∈ filter (is_minimal b) (sublists l)) ↔ ((s ⊑ l) × Minimal b s)

-- some body holds exactly where the weights of the literals that hold add up to the bound or more, whatever holds
abbrev pub Reached : Type 0
Reached =
    (b : ℕ) (l : List Weighted) (holds : ℤ → Bool)
    → any (λ ls. all holds ls) (bodies b l) ≡ leb b (sum (filter (λ x. holds x.literal) l))

-- the same elements in another order
pub data Reorder {A : Type 0} : List A → List A → Type 0 where
  nothing : Reorder [] []
  first-stays : {x : A} {l m : List A} → Reorder l m → Reorder (x ∷ l) (x ∷ m)
  exchange : {x y : A} {l : List A} → Reorder (x ∷ y ∷ l) (y ∷ x ∷ l)
  one_more : {l m n : List A} → Reorder l m → Reorder m n → Reorder l n

-- the order of the pairs does not matter: where the literals ascend by variable, the bodies are those of the pairs in any other order,
-- each of them put in order; said by tests
abbrev pub Reordered : Type 0
Reordered =
    (b : ℕ) (l m : List Weighted) (f : List ℤ → Bool) → rising (literals l) ≡ true → Reorder l m
    → any f (bodies b l) ≡ any (λ t. f (ascending t)) (bodies b m)

-- the bodies all of whose literals pass a test are the bodies of the pairs that pass it
abbrev pub Passing : Type 0
Passing =
    (b : ℕ) (l : List Weighted) (p : ℤ → Bool) → filter (all p) (bodies b l) ≡ bodies b (filter (λ x. p x.literal) l)

-- pairs of weight 0 are in no body, and may be left out
abbrev pub Weightless : Type 0
Weightless = (b : ℕ) (l : List Weighted) → bodies b (filter (λ x. ltb 0 x.weight) l) ≡ bodies b l
