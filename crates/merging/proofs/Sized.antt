-- The merge with question 34. Assumes nothing.
use mathlib.Core.Path.{◌≡◌, refl}
use mathlib.Core.Logic.{◌⊎◌, inl, inr}
use mathlib.Core.Bool.{Bool, true, false, cond}
use mathlib.Core.List.{List, [], ◌∷◌}
use Prim.Native.Nat.{ℕ}
use lib.IntN.{pos, neg_ℤ}
use Rattle.words.proofs.Lists.{zero_one}
use Rattle.aspif.specs.Rules.{Rule}
use Rattle.derivation.specs.States.{State, start}
use Rattle.drupe.specs.Texts.{Step}
use Rattle.derivation.specs.Steps.{Outcome, refused, next, step, steps}
use Rattle.merging.specs.Merge.{demanding, merged}
use Rattle.merging.specs.Claims.{Accepted, steps_in, AcceptedIn, MergedIn}
use Rattle.merging.proofs.Merged.{merged-accepted}
use Rattle.drupe.specs.declared.ProofFault.TheVariants.{StoreFull}

module _ (room : State → Bool) (N : ℕ) (P : List Rule) where
  -- what is accepted with the store is accepted without it
  without : (ts : List Step) (z w : State) → steps_in room N P z ts ≡ next w → steps N P z ts ≡ next w
  without [] z w e = e
  without (t ∷ ts) z w e = go (step N P z t) e (λ v d. without ts v w d)
    where
      go : (o : Outcome) → elim o [ refused k ↦ refused k | next v ↦ cond (room v) (steps_in room N P v ts) (refused StoreFull) ] ≡ next w
          → ((v : State) → steps_in room N P v ts ≡ next w → steps N P v ts ≡ next w) → elim o [ refused k ↦ refused k | next v ↦ steps N P v ts ] ≡ next w
      go (refused k) d below = d
      go (next v) d below = fit (room v) d
        where
          fit : (b : Bool) → cond b (steps_in room N P v ts) (refused StoreFull) ≡ next w → steps N P v ts ≡ next w
          fit true q = below v q
          fit false q = absurd (zero_one (cc))

  -- what is accepted without it is accepted with it, or 34
  within : (ts : List Step) (z w : State) → steps N P z ts ≡ next w → (steps_in room N P z ts ≡ next w) ⊎ (steps_in room N P z ts ≡ refused StoreFull)
  within [] z w e = inl e
  within (t ∷ ts) z w e = go (step N P z t) e (λ v d. within ts v w d)
    where
      go : (o : Outcome) → elim o [ refused k ↦ refused k | next v ↦ steps N P v ts ] ≡ next w
          → ((v : State) → steps N P v ts ≡ next w → (steps_in room N P v ts ≡ next w) ⊎ (steps_in room N P v ts ≡ refused StoreFull))
          → (elim o [ refused k ↦ refused k | next v ↦ cond (room v) (steps_in room N P v ts) (refused StoreFull) ] ≡ next w)
          ⊎ (elim o [ refused k ↦ refused k | next v ↦ cond (room v) (steps_in room N P v ts) (refused StoreFull) ] ≡ refused StoreFull)
      go (refused k) d below = absurd (zero_one (cc))
      go (next v) d below = fit (room v)
        where
          fit : (b : Bool) → (cond b (steps_in room N P v ts) (refused StoreFull) ≡ next w) ⊎ (cond b (steps_in room N P v ts) (refused StoreFull) ≡ refused StoreFull)
          fit true = below v d
          fit false = inr refl

  pub unsized : (ts : List Step) → AcceptedIn room N P ts → Accepted N P ts
  unsized ts (z, e, l) = (z, without ts start z e, l)

pub merged-in : MergedIn
merged-in room N P small v atom one two a b fit =
    let m = merged-accepted N P small v atom one two (unsized room N (demanding P (pos v)) one a) (unsized room N (demanding P (neg_ℤ (pos v))) two b) fit in
    let z = m.0 in
    (elim (within room N P (merged N P v one two) start z.0 z.1) [ inl e ↦ inl (z.0, e, z.2) | inr e ↦ inr e ], m.1)
