-- Question 34 over steps: those that are accepted with a store always have room, and those that only 34 stops run out of it. Assumes nothing.
use mathlib.Core.Path.{◌≡◌, refl, sym, ◌∙◌, ap}
use mathlib.Core.Bool.{Bool, true, false, cond, true≢false}
use mathlib.Core.List.{List, [], ◌∷◌}
use Prim.Native.Nat.{ℕ, zero, suc}
use native.Mathlib.Omega.{arith}
use borrow.Author.Tests.{leb-false, lt-leb, le-leb}
use lib.ListN.{take}
use Rattle.words.proofs.Lists.{zero_one}
use Rattle.aspif.specs.Rules.{Rule, InputRule, expand, atoms}
use Rattle.drupe.specs.Texts.{Step}
use Rattle.derivation.specs.States.{State, start}
use Rattle.derivation.specs.Steps.{Outcome, refused, next, step, steps}
use Rattle.nogoods.specs.Store.{words_for}
use Rattle.runs.specs.Course.{fitting}
use Rattle.merging.specs.Claims.{steps_in}
use Rattle.splits.specs.Claims.{PastStore}
use Rattle.drupe.specs.declared.ProofFault.TheVariants.{StoreFull}

module _ (room : State → Bool) (N : ℕ) (P : List Rule) where
  same-state : {z u : State} → next z ≡ next u → room z ≡ true → room u ≡ true
  same-state {z} {u} e r = let i : z ≡ u = cc in ap room (sym i) ∙ r

  keeps : (ts : List Step) (z w : State) → room z ≡ true → steps_in room N P z ts ≡ next w
      → (n : ℕ) (u : State) → steps N P z (take n ts) ≡ next u → room u ≡ true
  keeps ts z w r e zero u p = same-state p r
  keeps [] z w r e (suc n) u p = same-state p r
  keeps (t ∷ ts) z w r e (suc n) u p = go (step N P z t) e p (λ y f d q. keeps ts y w f d n u q)
    where
      go : (o : Outcome) → elim o [ refused k ↦ refused k | next y ↦ cond (room y) (steps_in room N P y ts) (refused StoreFull) ] ≡ next w
          → elim o [ refused k ↦ refused k | next y ↦ steps N P y (take n ts) ] ≡ next u
          → ((y : State) → room y ≡ true → steps_in room N P y ts ≡ next w → steps N P y (take n ts) ≡ next u → room u ≡ true) → room u ≡ true
      go (refused k) d q below = absurd (zero_one (cc))
      go (next y) d q below = fit (room y) refl d
        where
          fit : (b : Bool) → room y ≡ b → cond b (steps_in room N P y ts) (refused StoreFull) ≡ next w → room u ≡ true
          fit true f d = below y f d q
          fit false f d = absurd (zero_one (cc))

  -- one step and then more
  after_one : (t : Step) (ts : List Step) (n : ℕ) (z y u : State) → step N P z t ≡ next y → steps N P y (take n ts) ≡ next u
      → steps N P z (take (suc n) (t ∷ ts)) ≡ next u
  after_one t ts n z y u q e =
      ap (λ (o : Outcome). elim o as (λ x. Outcome) [ refused k ↦ refused k | next y' ↦ steps N P y' (take n ts) ]) q ∙ e

  past : (ts : List Step) (z w : State) → steps N P z ts ≡ next w → steps_in room N P z ts ≡ refused StoreFull
      → (n : ℕ) × (u : State) × (steps N P z (take n ts) ≡ next u) × (room u ≡ false)
  past [] z w e d = absurd (zero_one (cc))
  past (t ∷ ts) z w e d = go (step N P z t) refl e d (λ y f g. past ts y w f g)
    where
      go : (o : Outcome) → step N P z t ≡ o → elim o [ refused k ↦ refused k | next y ↦ steps N P y ts ] ≡ next w
          → elim o [ refused k ↦ refused k | next y ↦ cond (room y) (steps_in room N P y ts) (refused StoreFull) ] ≡ refused StoreFull
          → ((y : State) → steps N P y ts ≡ next w → steps_in room N P y ts ≡ refused StoreFull
          → (n : ℕ) × (u : State) × (steps N P y (take n ts) ≡ next u) × (room u ≡ false))
          → (n : ℕ) × (u : State) × (steps N P z (take n (t ∷ ts)) ≡ next u) × (room u ≡ false)
      go (refused k) q e d below = absurd (zero_one (cc))
      go (next y) q e d below = fit (room y) refl d
        where
          fit : (b : Bool) → room y ≡ b → cond b (steps_in room N P y ts) (refused StoreFull) ≡ refused StoreFull
              → (n : ℕ) × (u : State) × (steps N P z (take n (t ∷ ts)) ≡ next u) × (room u ≡ false)
          fit true f d = let x = below y e d in (suc x.0, x.1, after_one t ts x.0 z y x.1 q x.2, x.3)
          fit false f d = (suc zero, y, after_one t ts zero z y y q refl, f)

-- the same of a store of so many words
module _ (size : ℕ) (ws : List InputRule) (ts : List Step) (w : State) where
  pub never-past : steps_in (fitting size) (atoms ws) (expand ws) start ts ≡ next w → ¬ (PastStore size ws ts)
  never-past e (n, z, p, h) =
      true≢false (sym (keeps (fitting size) (atoms ws) (expand ws) ts start w (le-leb 0 size (omega arith)) e n z p) ∙ lt-leb (words_for z.live) size h)

  pub goes-past : steps (atoms ws) (expand ws) start ts ≡ next w → steps_in (fitting size) (atoms ws) (expand ws) start ts ≡ refused StoreFull → PastStore size ws ts
  goes-past e d =
      let x = past (fitting size) (atoms ws) (expand ws) ts start w e d in (x.0, x.1, x.2, leb-false (words_for x.1.live) size x.3)
