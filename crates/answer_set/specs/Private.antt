-- What the contracts of the private functions cite besides specs/SetTest.antt; no reader of the public contract needs it.
-- Assumes nothing.
use Rattle.std.specs.Prelude.{◌≡◌, Bool, true, List, ℕ, ◌≤◌, ℤ, length, drop, get_or, Option as Found, None, Some}
use Rattle.std.proofs.Math.Option.{Option, none, some}
use Rattle.words.specs.Lists.{◌∈◌}
use Rattle.aspif.specs.Rules.{InputRule}
use Rattle.aspif.specs.Tables.{rule_at, sound_at, rules_at}
use Rattle.answer_set.specs.SetTest.{give_rule}

-- what a search tells of the number that it found, or that there is none
abbrev pub searched : Option ℕ → Found ℕ
searched none = None
searched (some v) = Some v

-- one of the table's rules begins at word i, and all numbers listed are of such words
pub record RuleStart (table : List ℤ) (rules i : ℕ) : Type 0 where
  pub within : i ≤ length table
  pub sound : sound_at (drop i table) ≡ true
  pub among : rule_at (drop i table) ∈ rules_at rules table

abbrev pub RuleStarts : List ℤ → ℕ → List ℕ → Type 0
RuleStarts table rules starts = (k : ℕ) → RuleStart table rules (get_or starts k 0)

-- marks that come of others by giving rules of a list, in any order
pub data Given (M : ℕ → Bool) (rs : List InputRule) (m : List ℕ) : List ℕ → Type 0 where
  nothing : Given M rs m m
  more : {n : List ℕ} (r : InputRule) → r ∈ rs → Given M rs m n → Given M rs m (give_rule M r n)
