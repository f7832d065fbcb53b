-- A tree of splits with proofs at its ends, over lists of steps: document 02, Change 14. proofs/Trees.antt proves the claims.
-- Assumes nothing.
use Rattle.std.specs.Prelude.{◌≡◌, true, List, ℕ, ◌≤◌, pos, neg_ℤ}
use Rattle.aspif.specs.Rules.{Rule, InputRule, expand, atoms, plain_atoms}
use Rattle.drupe.specs.Texts.{Step}
use Rattle.derivation.specs.States.{is_atom}
use Rattle.derivation.specs.Claims.{NoAnswerSet, NoneAsWritten}
use Rattle.merging.specs.Merge.{demanding, merged, all_fit}
use Rattle.merging.specs.Claims.{Accepted}

-- an end with its proof; or a split on an atom with its two sides, "the demanding side first"
pub data Tree : Type 0 where
  end : List Step → Tree
  split : ℕ → (demanding other : Tree) → Tree

-- the atoms are 1 to N
module _ (N : ℕ) where
  -- "Merge it from the ends upward by Change 9 into one proof for the program"; an end is "written as it stands"
  abbrev pub merged_tree : List Rule → Tree → List Step
  merged_tree P (end ts) = ts
  merged_tree P (split v l r) = merged N P v (merged_tree (demanding P (pos v)) l) (merged_tree (demanding P (neg_ℤ (pos v))) r)

  -- each end is accepted "for the program with the constraints on its path", each split is on an atom of the program, and every merge fits
  abbrev pub Fits : List Rule → Tree → Type 0
  Fits P (end ts) = Accepted N P ts
  Fits P (split v l r) =
      (is_atom N v ≡ true)
      × (Fits (demanding P (pos v)) l × (Fits (demanding P (neg_ℤ (pos v))) r × (all_fit (merged_tree P (split v l r)) ≡ true)))

-- "The result is accepted whenever every merge fits, and demand 3 then holds of the undivided program."
abbrev pub TreeAccepted : Type 1
TreeAccepted =
    (N : ℕ) (P : List Rule) → plain_atoms P ≤ N → (t : Tree) → Fits N P t → Accepted N P (merged_tree N P t) × NoAnswerSet P

-- the same for a program as it is written: the constraints on a path are plain, and N stays
abbrev pub TreeAsWritten : Type 1
TreeAsWritten =
    (ws : List InputRule) (t : Tree) → Fits (atoms ws) (expand ws) t
    → Accepted (atoms ws) (expand ws) (merged_tree (atoms ws) (expand ws) t) × NoneAsWritten ws
