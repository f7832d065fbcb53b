-- What the private functions cite besides the definitions of the service. No reader of the public contract needs it.
-- Assumes nothing.
use Rattle.std.specs.Prelude.{◌≡◌, Bool, true, false, List, ℕ, ◌≤◌, ℤ, Result, Ok, Err}
use Rattle.words.specs.Lists.{◌∈◌}
use Rattle.weights.specs.Weights.{most_weight}
use Rattle.aspif.specs.Rules.{InputRule, rule_words}
use Rattle.answer_set.specs.declared.SetAnswer.{SetAnswer}
use Rattle.answer_set.specs.declared.SetAnswer.TheVariants.{Yes, Differs, Broken}
use Rattle.answer_set.specs.declared.SetFault.{SetFault}
use Rattle.checker.specs.Check.{Checked, is_inconsistent, judged}
use Rattle.costs.specs.Costs.{Cost, good_costs, restriction, restricted}
use Rattle.cheapest.specs.Service.{restricted_course}

-- the set test said yes
abbrev pub said_yes : Result SetAnswer SetFault → Bool
said_yes (Ok Yes) = true
said_yes (Ok (Differs v)) = false
said_yes (Ok (Broken k)) = false
said_yes (Err f) = false

-- the words of the restriction to less than C, of costs that are good for the atoms 1 to N
pub record Restricts (N : ℕ) (ks : List Cost) (C : ℕ) (words : List ℤ) : Type 0 where
  pub is : words ≡ rule_words (restriction ks C)
  pub good : good_costs N ks ≡ true
  pub light : (k : Cost) → k ∈ ks → k.weight ≤ most_weight
  pub small : C ≤ most_weight

-- the check of the proof for the restricted program, with its verdict
abbrev pub restricted_check : (size : ℕ) → List InputRule → List Cost → (C : ℕ) → (proof : List ℕ) → Checked
restricted_check size ws ks C proof = judged 0 size (restricted ws ks C) (restricted_course size ws ks C proof)

-- whether it is "inconsistent", and the store that it leaves
pub record ProofChecked (size : ℕ) (ws : List InputRule) (ks : List Cost) (C : ℕ) (proof : List ℕ) (store : List ℤ) (r : Bool) : Type 0 where
  pub answer : r ≡ is_inconsistent (restricted_check size ws ks C proof).verdict
  pub left : store ≡ (restricted_check size ws ks C proof).store
