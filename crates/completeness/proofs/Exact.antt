-- A derivation leaves no answer set also where question 23 is not put, so that there is one exactly where there is no answer set. Assumes nothing.
use mathlib.Core.Path.{refl}
use mathlib.Core.Logic.{◌⊎◌, inl, inr}
use mathlib.Core.List.{List}
use Prim.Native.Nat.{ℕ, ◌≤◌, max}
use native.Mathlib.Omega.{arith}
use lib.IntN.{pos}
use Rattle.words.specs.Lists.{◌∈◌}
use Rattle.words.specs.Literals.{top}
use Rattle.words.proofs.Tops.{top_within}
use Rattle.words.proofs.Literals.{has-decides}
use Rattle.aspif.specs.Rules.{Rule, plain_atoms}
use Rattle.aspif.specs.AnswerSets.{AnswerSet}
use Rattle.aspif.proofs.RuleTests.{greatest-within}
use Rattle.drupe.specs.Texts.{Step}
use Rattle.derivation.specs.States.{State}
use Rattle.derivation.proofs.Invariant.{Kept}
use Rattle.derivation.proofs.Outcomes.{if_no, if-signed}
use Rattle.derivation.proofs.Sustaining.{Fine, letter-fine, never-empty}
use Rattle.derivation.proofs.Sound.{answer-set-sustained, none-further}
use Rattle.completeness.specs.Claims.{free_step, free_steps, WellFormed, Answer, Refutes, Refutation, Exact}
use Rattle.completeness.proofs.Complete.{complete}
use Rattle.drupe.specs.declared.ProofFault.TheVariants.{Malformed}

module _ (N : ℕ) (P : List Rule) (fits : plain_atoms P ≤ N) (M : ℕ → Type 0) (S : AnswerSet M P) where
  free-fine : (z : State) → Kept N M z → (t : Step) → Fine N P M (free_step N P z t)
  free-fine z k t =
      if_no (Kept N M) (has-decides (pos 0) t.numbers) _ Malformed
      (λ nz. if-signed (Kept N M) t.letter t.numbers _
      (λ s _. letter-fine N P M (answer-set-sustained N P fits M S {Line = λ l. Unit {0}}) z k t.letter t.numbers nz tt s))

  none_left : (ts : List Step) → Refutes N P ts → ⊥
  none_left ts r = never-empty N P M (free_step N P) free-fine (free_steps N P) (λ z. refl) (λ z t ts. refl) ts r.0 r.1 r.2

-- a program that is well formed names no atom above N
pub well-within : (N : ℕ) (P : List Rule) → WellFormed N P → plain_atoms P ≤ N
well-within N P wf =
    greatest-within (λ (r : Rule). max (top r.heads) (top r.body)) N P (λ r m. omega (arith, top_within N r.heads (λ h i. (wf.heads r m h i).1), top_within N r.body (λ x i. (wf.literals r m x i).1)))

pub exact : Exact
exact N P wf = (λ f. by f (complete N P wf), λ ts r. none-further P (λ M S. none_left N P (well-within N P wf) M S ts r))
  where
    by : ((M : ℕ → Type 0) → AnswerSet M P → ⊥) → Answer N P ⊎ Refutation N P → Refutation N P
    by f (inl a) = absurd (f (λ n. n ∈ a.0) a.2)
    by f (inr r) = r
