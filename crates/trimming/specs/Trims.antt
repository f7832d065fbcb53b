-- "Steps are tried for removal from the last to the first, and passes repeat until one removes none": document 02, Change 10, of a list of
-- anything and any test on lists.
-- Assumes nothing.
use Rattle.std.specs.Prelude.{Bool, cond, List, [], ◌∷◌, ◌++◌, ℕ, zero, suc, eqb, length}
use Rattle.weights.specs.Claims.{◌⊑◌}

module _ {A : Type 0} (accepted : List A → Bool) where
  -- a step stays unless the list is accepted without it; what stands before it is still whole, and what follows it was tried before
  abbrev pub tried : List A → A → List A → List A
  tried front t rest = cond (accepted (front ++ rest)) rest (t ∷ rest)

  -- "from the last to the first": what is left of a list with `front` before it, after one pass
  unfoldable pub pass : List A → List A → List A
  pass front [] = []
  pass front (t ∷ ts) = tried front t (pass (front ++ (t ∷ [])) ts)

  -- "passes repeat until one removes none"; every other makes the list shorter, so that as many turns as it has steps are enough
  unfoldable pub passes : ℕ → List A → List A
  passes zero ts = ts
  passes (suc turns) ts = cond (eqb (length (pass [] ts)) (length ts)) ts (passes turns (pass [] ts))

  abbrev pub trimmed : List A → List A
  trimmed ts = passes (length ts) ts

-- "its steps stand in their old order": the first list is the second with some elements struck out
abbrev pub Sublist : {A : Type 0} → List A → List A → Type 0
Sublist ks ls = ks ⊑ ls
