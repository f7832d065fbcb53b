-- The closure that an `a` step asks for: as the least set of document 01, and as a computation that contracts cite.
-- proofs/Closure.antt shows that the two agree.
-- Assumes nothing.
use Rattle.std.specs.Prelude.{◌≡◌, ◌⊎◌, Bool, true, false, not, ◌||◌, List, [], ◌∷◌, ◌++◌, map, ℕ, zero, suc, ℤ, length}
use Rattle.words.specs.Lists.{◌∈◌, any, all, filter, concat}
use Rattle.words.specs.Literals.{complement, same, has}
use Rattle.aspif.specs.Rules.{is_empty}

-- "let A be the least set that contains L and, for each literal of a live nogood whose other literals are all in A, the
-- complement of that literal"
pub data Closure (live : List (List ℤ)) (L : List ℤ) : ℤ → Type 0 where
  given : {x : ℤ} → x ∈ L → Closure live L x
  unit : {x : ℤ} (g : List ℤ) → g ∈ live → complement x ∈ g → ((k : ℤ) → k ∈ g → ¬ (k ≡ complement x) → Closure live L k) → Closure live L x

-- "A has a literal and its complement, or the empty nogood is live"
abbrev pub Conflict : List (List ℤ) → List ℤ → Type 0
Conflict live L = ((x : ℤ) × Closure live L x × Closure live L (complement x)) ⊎ ([] ∈ live)

-- The computation: rounds that add all that is derivable, until nothing is new or a literal meets its complement.

-- every literal of g other than x is in A
abbrev pub others_in : List ℤ → List ℤ → ℤ → Bool
others_in A g x = all (λ k. same k x || has k A) g

-- the complement of each literal of a live nogood whose other literals are all in A
abbrev pub derivable : List (List ℤ) → List ℤ → List ℤ
derivable live A = map complement (concat (map (λ g. filter (others_in A g) g) live))

-- what is derivable and not in A
abbrev pub fresh : List (List ℤ) → List ℤ → List ℤ
fresh live A = filter (λ x. not (has x A)) (derivable live A)

-- a literal and its complement are in A
abbrev pub clash : List ℤ → Bool
clash A = any (λ x. has (complement x) A) A

-- at most n rounds
abbrev pub saturate : ℕ → List (List ℤ) → List ℤ → List ℤ
saturate zero live A = A
saturate (suc n) live A = elim (clash A) [ true ↦ A | false ↦ elim (fresh live A) [ [] ↦ A | x ∷ xs ↦ saturate n live (x ∷ xs ++ A) ] ]

-- every round but the last adds the complement of some literal of a nogood for the first time, so that many are enough
abbrev pub refuted : List (List ℤ) → List ℤ → Bool
refuted live L = clash (saturate (length (concat live)) live L) || any is_empty live
