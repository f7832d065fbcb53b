-- An answer set under another name is one. Assumes nothing.
use mathlib.Core.List.{List}
use Prim.Native.Nat.{ℕ, suc}
use Rattle.aspif.specs.Rules.{Rule}
use Rattle.aspif.specs.AnswerSets.{Chosen, LeastModel, derive, AnswerSet}
use Rattle.aspif.specs.declared.Kind.{Kind}
use Rattle.aspif.specs.declared.Kind.TheVariants.{Normal, Choice}

module _ (P : List Rule) (M W : ℕ → Type 0) (to : (n : ℕ) → M n → W n) (from : (n : ℕ) → W n → M n) where
  chosen-under : (k : Kind) (h : ℕ) → Chosen M k h → Chosen W k h
  chosen-under Normal h c = c
  chosen-under Choice h c = to h c

  least_under : {a : ℕ} → LeastModel M P a → LeastModel W P a
  least_under (derive {h = h} r m t g b) = derive r m (λ n i w. t n i (from (suc n) w)) (g.0, chosen-under r.kind h g.1) (λ c i. least_under (b c i))

pub answer-under : (P : List Rule) (M W : ℕ → Type 0) → ((n : ℕ) → M n → W n) → ((n : ℕ) → W n → M n) → AnswerSet M P → AnswerSet W P
answer-under P M W to from S = record {
  least = λ a. (λ w. least_under P M W to from ((S.least a).0 (from a w)), λ d. to a ((S.least a).1 (least_under P W M from to d)));
  kept = λ r m c t. S.kept r m c (λ a i. from a (t.0 a i), λ n i u. t.1 n i (to (suc n) u));
}
