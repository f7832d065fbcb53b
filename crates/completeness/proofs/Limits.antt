-- Question 23: where it is passed, steps with it and without it are the same; and programs of at most 65 atoms, with at most 64 plain rules for a
-- head and 64 literals in a body, have derivations that pass it. Assumes nothing.
use mathlib.Core.Path.{◌≡◌, refl, sym, ◌∙◌, ap, ap₂}
use mathlib.Core.Logic.{◌⊎◌, inl, inr}
use mathlib.Core.Bool.{Bool, true, false, cond, ◌||◌}
use mathlib.Core.List.Memᴰ
use mathlib.Core.List.{List, [], ◌∷◌}
use Prim.Native.Nat.{ℕ, ◌≤◌}
use native.Mathlib.Omega.{arith}
use lib.IntN.{pos}
use lib.ListN.{length}
use borrow.Author.Tests.{le-ltb}
use Rattle.words.specs.Lists.{◌∈◌}
use Rattle.words.specs.Limits.{largest, most_numbers}
use Rattle.words.specs.Literals.{variable, has}
use Rattle.words.proofs.Lists.{failed}
use Rattle.text.specs.Line.{any_outside}
use Rattle.aspif.specs.Rules.{Rule}
use Rattle.aspif.proofs.Formed.{inside-decides}
use Rattle.drupe.specs.Texts.{Step}
use Rattle.derivation.specs.States.{State, start}
use Rattle.derivation.specs.Steps.{Outcome, refused, next, by_letter, step, steps}
use Rattle.derivation.proofs.Outcomes.{is_beyond, signing, step-asks}
use Rattle.completeness.specs.Claims.{free_step, free_steps, Within, Short, by-atoms, by_name, by-body, by-head, Answer, Refutation, Accepted, SameSteps, AcceptedFree, CompleteWithin}
use Rattle.completeness.proofs.Accepting.{not-refused, then}
use Rattle.completeness.proofs.Complete.{complete}
use Rattle.drupe.specs.declared.ProofFault.TheVariants.{Malformed, OutOfRange}

module _ (N : ℕ) (P : List Rule) where
  same_step : (z : State) (t : Step) → Within largest most_numbers t → step N P z t ≡ free_step N P z t
  same_step z t w =
      step-asks N P z t
      ∙ ap (λ (b : Bool). cond (has (pos 0) t.numbers) (refused Malformed) (cond b (refused OutOfRange) later)) small
    where
      later : Outcome
      later = signing t.letter t.numbers (by_letter N P z t.letter t.numbers)

      small : is_beyond t.numbers ≡ false
      small =
          let inside = (inside-decides t.numbers).from (λ x i. rw (le-ltb largest (variable x) (w.0 x i)) tt) in
          ap₂ (λ a b. a || b) (failed (any_outside t.numbers) inside) (le-ltb most_numbers (length t.numbers) w.1)

  after : (ts : List Step) → Outcome → Outcome
  after ts o = elim o [ refused k ↦ refused k | next z' ↦ steps N P z' ts ]

  pub same_from : (ts : List Step) (z : State) → ((t : Step) → t ∈ ts → Within largest most_numbers t) → steps N P z ts ≡ free_steps N P z ts
  unfolding after
  same_from [] z f = refl
  same_from (t ∷ ts) z f =
      ap (after ts) (same_step z t (f t (Memᴰ.head refl))) ∙ go (λ z'. same_from ts z' (λ u i. f u (Memᴰ.tail i))) (free_step N P z t)
    where
      go : ((z' : State) → steps N P z' ts ≡ free_steps N P z' ts) → (o : Outcome) → after ts o ≡ then N P ts o
      go below (refused k) = refl
      go below (next z') = below z'

  -- what is accepted where the question is put

  step-free : (z y : State) (t : Step) → step N P z t ≡ next y → free_step N P z t ≡ next y
  step-free z y t e = by (has (pos 0) t.numbers) (is_beyond t.numbers) _ (sym (step-asks N P z t) ∙ e)
    where
      by : (h b : Bool) (o : Outcome) → cond h (refused Malformed) (cond b (refused OutOfRange) o) ≡ next y → cond h (refused Malformed) o ≡ next y
      by true b o e = e
      by false true o e = absurd (not-refused e)
      by false false o e = e

  steps-free : (ts : List Step) (z w : State) → steps N P z ts ≡ next w → free_steps N P z ts ≡ next w
  unfolding after
  steps-free [] z w e = e
  steps-free (t ∷ ts) z w e = by (λ y f. steps-free ts y w f) (step N P z t) refl e
    where
      by : ((y : State) → steps N P y ts ≡ next w → free_steps N P y ts ≡ next w) → (o : Outcome) → step N P z t ≡ o → after ts o ≡ next w
          → then N P ts (free_step N P z t) ≡ next w
      by below (refused k) p e = absurd (not-refused e)
      by below (next y) p e = ap (then N P ts) (step-free z y t p) ∙ below y e

pub accepted-free : AcceptedFree
accepted-free N P z w ts e = steps-free N P ts z w e

pub same-steps : SameSteps
same-steps N P z ts f = same_from N P ts z f

pub complete-within : CompleteWithin
complete-within N P wf a b c d = by (complete N P wf)
  where
    few : {n : ℕ} → Short N P n → n ≤ most_numbers
    few (by-atoms k) = omega arith
    few (by_name k) = omega arith
    few (by-body r m k) = omega (arith, c r m)
    few (by-head h k) = omega (arith, d h)

    by : Answer N P ⊎ Refutation N P → Answer N P ⊎ Accepted N P
    by (inl s) = inl s
    by (inr r) = inr (r.lines, r.refutes.0, same-steps N P start r.lines within ∙ r.refutes.1, r.refutes.2)
      where
        within : (t : Step) → t ∈ r.lines → Within largest most_numbers t
        within t i = let w = r.sized t i in (λ x j. omega (arith, w.1 x j), few w.2)
