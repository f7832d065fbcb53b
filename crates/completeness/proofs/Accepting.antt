-- Lists of steps that are accepted, one step after another, and what a step asks for. Assumes nothing.
use mathlib.Core.Path.{◌≡◌, refl, sym, ap, subst}
use mathlib.Core.Logic.{◌⊎◌, inl, inr}
use mathlib.Core.Bool.{Bool, true, false, cond, true≢false}
use mathlib.Core.List.Memᴰ
use mathlib.Core.List.{List, [], ◌∷◌, ◌++◌}
use Prim.Native.Nat.{ℕ, ◌≤◌}
use native.Mathlib.Omega.{arith}
use lib.IntN.{ℤ, pos}
use Rattle.words.specs.Lists.{◌∈◌}
use Rattle.words.specs.Literals.{variable, has, distinct}
use Rattle.words.proofs.Lists.{failed, not-decides}
use Rattle.words.proofs.Literals.{has-decides}
use Rattle.text.specs.declared.Letter.{Letter}
use Rattle.aspif.specs.Rules.{Rule}
use Rattle.drupe.specs.Lines.{signs_of, signed}
use Rattle.drupe.specs.Texts.{Step}
use Rattle.derivation.specs.States.{State, start}
use Rattle.derivation.specs.Steps.{Outcome, refused, next, by_letter}
use Rattle.completeness.specs.Claims.{free_step, free_steps, Sized}
use Rattle.drupe.specs.declared.ProofFault.TheVariants.{Malformed, WrongSigns, RepeatedVariable}
use Rattle.drupe.specs.declared.ProofFault.{ProofFault}

-- Outcomes

abbrev is_next : Outcome → Bool
is_next (refused k) = false
is_next (next z) = true

pub not-refused : {k : ProofFault} {z : State} → refused k ≡ next z → ⊥
not-refused e = true≢false (sym (ap is_next e))

abbrev state_of : Outcome → State
state_of (refused k) = start
state_of (next z) = z

-- a question that asks for a yes, and one that asks for a no
pub yes-passes : {b : Bool} {o : Outcome} {z : State} (k : ProofFault) → b ≡ true → o ≡ next z → cond b o (refused k) ≡ next z
yes-passes {b = true} k e p = p
yes-passes {b = false} k e p = absurd (true≢false (sym e))

pub no-passes : {b : Bool} {o : Outcome} {z : State} (k : ProofFault) → b ≡ false → o ≡ next z → cond b (refused k) o ≡ next z
no-passes {b = true} k e p = absurd (true≢false e)
no-passes {b = false} k e p = p

module _ (N : ℕ) (P : List Rule) where
  -- questions 22, 24 and 25 are passed, and those by letter
  pub accepted : (z z' : State) (x : Letter) (l : List ℤ) → ((y : ℤ) → y ∈ l → 1 ≤ variable y) → signed (signs_of x) l ≡ true → distinct l ≡ true
      → by_letter N P z x l ≡ next z' → free_step N P z (record { letter = x; numbers = l }) ≡ next z'
  accepted z z' x l f s d e =
      no-passes Malformed (failed (has (pos 0) l) ((not-decides (has-decides (pos 0) l)).from (λ i. omega (arith, f (pos 0) i))))
      (yes-passes WrongSigns s (yes-passes RepeatedVariable d e))

  -- the steps after one that leaves an outcome
  abbrev pub then : List Step → Outcome → Outcome
  then ts o = elim o [ refused k ↦ refused k | next z' ↦ free_steps N P z' ts ]

  pub steps-more : (ts : List Step) (t : Step) (y z z' : State) → free_steps N P y ts ≡ next z → free_step N P z t ≡ next z'
      → free_steps N P y (ts ++ (t ∷ [])) ≡ next z'
  steps-more [] t y z z' e f = subst (λ (v : State). then [] (free_step N P v t) ≡ next z') (sym (ap state_of e)) (ap (then []) f)
  steps-more (s ∷ ts) t y z z' e f = go (λ y' h. steps-more ts t y' z z' h f) (free_step N P y s) e
    where
      go : ((y' : State) → free_steps N P y' ts ≡ next z → free_steps N P y' (ts ++ (t ∷ [])) ≡ next z') → (o : Outcome) → then ts o ≡ next z
          → then (ts ++ (t ∷ [])) o ≡ next z'
      go below (refused k) e = absurd (not-refused e)
      go below (next y') e = below y' e

  -- accepted steps lead from the start to z
  abbrev pub Reached : State → Type 0
  Reached z = (ts : List Step) × (free_steps N P start ts ≡ next z) × ((t : Step) → t ∈ ts → Sized N P t)

  abbrev pub reached-start : Reached start
  reached-start = ([], refl, λ t i. elim i [ ])

  abbrev pub reached-more : {z z' : State} (t : Step) → Reached z → free_step N P z t ≡ next z' → Sized N P t → Reached z'
  reached-more {z} {z'} t r e w = (r.0 ++ (t ∷ []), steps-more r.0 t start z z' r.1 e, λ u i. by u (Memᴰ.append_cases r.0 i))
    where
      by : (u : Step) → (u ∈ r.0) ⊎ (u ∈ t ∷ []) → Sized N P u
      by u (inl i) = r.2 u i
      by u (inr i) = subst (Sized N P) (sym (Memᴰ.eq_of_singleton i)) w
