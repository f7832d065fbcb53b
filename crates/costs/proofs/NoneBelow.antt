-- No answer set costs less than C, where the program restricted to less than C has none. Assumes nothing.
use mathlib.Core.Path.{◌≡◌, refl, sym, subst}
use mathlib.Core.Logic.{inl, inr}
use mathlib.Core.Bool.{true}
use mathlib.Core.List.Memᴰ
use mathlib.Core.List.{List, [], ◌∷◌, ◌++◌}
use Prim.Native.Nat.{ℕ, ◌≤◌, ◌<◌}
use native.Mathlib.Omega.{arith}
use Rattle.words.specs.Lists.{◌∈◌}
use Rattle.words.specs.Literals.{distinct}
use Rattle.words.proofs.Places.{equal?}
use Rattle.weights.specs.Weights.{literals}
use Rattle.aspif.specs.Rules.{InputRule, expand}
use Rattle.aspif.specs.AnswerSets.{AnswerSet}
use Rattle.aspif.proofs.Expansion.{expand-append}
use Rattle.derivation.specs.Claims.{WrittenConstraint, NoneAsWritten}
use Rattle.derivation.proofs.Sound.{answer-set-without, answer-set-with}
use Rattle.derivation.proofs.AsWritten.{constraints}
use Rattle.costs.specs.Costs.{Cost, Costs, restriction, restricted}
use Rattle.costs.proofs.Restriction.{restriction-means}

module _ (ws : List InputRule) (ks : List Cost) (C : ℕ) (d : distinct (literals ks) ≡ true) (none : ¬ (C ≡ 0) → NoneAsWritten (restricted ws ks C)) where
  pub none_below : (M : ℕ → Type 0) → AnswerSet M (expand ws) → (c : ℕ) → Costs M ks c → C ≤ c
  none_below M S c k = elim (equal? C 0) [ inl e ↦ omega arith | inr n ↦ omega (arith, above n) ]
    where
      one : (r : InputRule) → r ∈ restriction ks C ∷ [] → WrittenConstraint r
      one r i = rw (Memᴰ.eq_of_singleton i) (refl, refl)

      above : ¬ (C ≡ 0) → ¬ (c < C)
      above n l =
          (none n).0 M (subst (AnswerSet M) (sym (expand-append ws (restriction ks C ∷ [])))
          (answer-set-with (expand ws) (expand (restriction ks C ∷ [])) M (constraints (restriction ks C ∷ []) one) S
          (λ r i met. omega (arith, l, (restriction-means M ks C c d k).0 (r, i, met)))))

  pub none-below-with : (more : List InputRule) → ((r : InputRule) → r ∈ more → WrittenConstraint r)
      → (M : ℕ → Type 0) → AnswerSet M (expand (ws ++ more)) → (c : ℕ) → Costs M ks c → C ≤ c
  none-below-with more f M S =
      none_below M (answer-set-without (expand ws) (expand more) M (constraints more f) (subst (AnswerSet M) (expand-append ws more) S))
