-- Demand 3, part one: if every step is accepted in its turn and the empty nogood is live after the last, then the program has no
-- answer set, nor has it any with further constraints. Under an answer set the nogoods of `c`, `s` and `l` fail (Nogoods.antt), so that
-- the invariant stays (Sustaining.antt). Assumes nothing.
use mathlib.Core.Path.{refl}
use mathlib.Core.Logic.{◌⊎◌, inl, inr}
use mathlib.Core.List.Memᴰ
use mathlib.Core.List.{List, ◌∷◌, ◌++◌}
use Prim.Native.Nat.{ℕ, ◌≤◌}
use lib.IntN.{ℤ, pos}
use Rattle.words.specs.Lists.{◌∈◌}
use Rattle.aspif.specs.Rules.{Rule, plain_atoms}
use Rattle.aspif.specs.AnswerSets.{Constraint, LeastModel, derive, Met, AnswerSet}
use Rattle.derivation.specs.Claims.{NoAnswerSet, Sound}
use Rattle.derivation.proofs.Nogoods.{completion-fails, support-fails, loop-fails}
use Rattle.derivation.proofs.Sustaining.{Sustained, never-refuted}

-- Further constraints

-- constraints take no part in the least model, so they only forbid answer sets
module _ (P C : List Rule) (M : ℕ → Type 0) (constraints : (r : Rule) → r ∈ C → Constraint r) where
  without : {a : ℕ} → LeastModel M (P ++ C) a → LeastModel M P a
  without (derive {h = h} r m t g b) = go (λ c u. without (b c u)) (Memᴰ.append_cases P m)
    where
      go : ((c : ℕ) → pos c ∈ r.body → LeastModel M P c) → (r ∈ P) ⊎ (r ∈ C) → LeastModel M P h
      go below (inl u) = derive r u t g below
      go below (inr u) = elim (rw (constraints r u).1 at g.0) [ ]

  along : {a : ℕ} → LeastModel M P a → LeastModel M (P ++ C) a
  along (derive r m t g b) = derive r (Memᴰ.append_left C m) t g (λ c u. along (b c u))

  pub answer-set-without : AnswerSet M (P ++ C) → AnswerSet M P
  answer-set-without S = record {
    least = λ a. (λ m. without ((S.least a).0 m), λ d. (S.least a).1 (along d));
    kept = λ r m. S.kept r (Memᴰ.append_left C m);
  }

  -- and an answer set that meets none of them is one with them
  pub answer-set-with : AnswerSet M P → ((r : Rule) → r ∈ C → ¬ Met M r) → AnswerSet M (P ++ C)
  answer-set-with S f = record {
    least = λ a. (λ m. along ((S.least a).0 m), λ d. (S.least a).1 (without d));
    kept = λ r m. go r (Memᴰ.append_cases P m);
  }
    where
      go : (r : Rule) → (r ∈ P) ⊎ (r ∈ C) → Constraint r → ¬ Met M r
      go r (inl m) = S.kept r m
      go r (inr m) = λ c. f r m

-- Steps

pub answer-set-sustained : (N : ℕ) (P : List Rule) → plain_atoms P ≤ N → (M : ℕ → Type 0) → AnswerSet M P → {Line : List ℤ → Type 0}
    → Sustained N P M Line
answer-set-sustained N P fits M S = record {
  fits = fits;
  completion-fails = completion-fails N P fits M S;
  support-fails = support-fails N P fits M S;
  loop-fails = λ z k h hs _ q a _ e. loop-fails N P fits M S z k (h ∷ hs) q e h (Memᴰ.head refl) (a h (Memᴰ.head refl));
}

-- where no answer set is left, none is with further constraints
pub none-further : (P : List Rule) → ((M : ℕ → Type 0) → AnswerSet M P → ⊥) → NoAnswerSet P
none-further P none = (none, λ C c M S. none M (answer-set-without P C M c S))

pub soundness : Sound
soundness N P fits ts z e l = none-further P (λ M S. never-refuted N P M (answer-set-sustained N P fits M S) ts z e l)
