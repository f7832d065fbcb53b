-- A table that holds one rule more. Assumes nothing.
use mathlib.Core.Path.{◌≡◌, sym, ◌∙◌, ap}
use mathlib.Core.Logic.{inl, inr}
use mathlib.Core.List.Memᴰ
use mathlib.Core.List.{List, [], ◌∷◌, ◌++◌}
use Prim.Native.Nat.{ℕ, ◌+◌}
use native.Mathlib.Omega.{arith}
use lib.IntN.{ℤ, pos}
use lib.ListN.{length, replicate, length-append}
use Rattle.words.specs.Lists.{◌∈◌}
use Rattle.aspif.specs.Rules.{InputRule, rule_words, program_words}
use Rattle.aspif.proofs.Formed.{Formed}
use Rattle.aspif.proofs.Passes.{words_more}
use Rattle.aspif.proofs.Readable.{rules-back, all-zero, rules-formed, rules-count}
use Rattle.names.specs.Queries.{HoldsRules}

pub appended-holds : {ws : List InputRule} {table : List ℤ} {rules : ℕ} → HoldsRules table rules ws → (r : InputRule) → Formed r → {wide : List ℤ} (k : ℕ)
    → wide ≡ (program_words ws ++ rule_words r) ++ replicate k (pos 0) → HoldsRules wide (rules + 1) (ws ++ (r ∷ []))
appended-holds {ws} {table} {rules} H r F {wide} k e =
    let b = rules-back (replicate k (pos 0)) (all-zero k) (ws ++ (r ∷ [])) formed in
    let w : wide ≡ program_words (ws ++ (r ∷ [])) ++ replicate k (pos 0) = e ∙ ap (λ (l : List ℤ). l ++ replicate k (pos 0)) (sym (words_more ws r)) in
    let n : length (ws ++ (r ∷ [])) ≡ rules + 1 = omega (arith, length-append ws (r ∷ []), ap length H.are, rules-count rules table) in
    record { sound = rw (w, ← n) b.0; are = rw (w, ← n) b.1 }
  where
    formed : (q : InputRule) → q ∈ ws ++ (r ∷ []) → Formed q
    formed q i = elim (Memᴰ.append_cases ws i) [
      | inl j ↦ rules-formed rules table H.sound q (rw H.are j)
      | inr j ↦ rw (Memᴰ.eq_of_singleton j) F
    ]
