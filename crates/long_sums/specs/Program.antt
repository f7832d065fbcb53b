-- What the private functions say of the table's rules and of the lines that are written for them. No reader of the
-- public contract needs it.
-- Assumes nothing.
use Rattle.std.specs.Prelude.{◌≡◌, Bool, false, List, ◌++◌, ℕ, suc, ◌+◌, ◌-◌, ◌≤◌, min, ltb, ℤ, length, drop}
use Rattle.words.specs.Lists.{◌∈◌}
use Rattle.words.specs.Limits.{largest, most_literals, most_rules}
use Rattle.weights.specs.Weights.{most_weighted}
use Rattle.text.specs.Writing.{Put}
use Rattle.aspif.specs.Rules.{Body, plain, weights, InputRule, rule_words, program_words, table_words, atoms}
use Rattle.aspif.specs.Tables.{size_at, rule_at, rules_at}
use Rattle.aspif.specs.Text.{program_text}
use Rattle.aspif.specs.Claims.{FormedWithin}
use Rattle.sums.specs.Plans.{Item, split_item, needs, all_needs, in_turn}
use Rattle.sums.specs.Levels.{plan_body, sorted_groups}
use Rattle.totalizer.specs.declared.texts.Place.{Place}
use Rattle.totalizer.specs.Emitting.{too_many, Emits}
use Rattle.joins.specs.declared.chains.Numbered.{Numbered}

-- a rule that the reader takes with sums of 64 literals stands at the front
pub record RuleHeld (ws : List ℤ) : Type 0 where
  pub words : ws ≡ rule_words (rule_at ws) ++ drop (size_at ws) ws
  pub formed : FormedWithin most_literals (rule_at ws)

-- and so many such rules
pub record RulesHeld (n : ℕ) (ws : List ℤ) : Type 0 where
  pub words : ws ≡ program_words (rules_at n ws) ++ drop (length (program_words (rules_at n ws))) ws
  pub formed : (r : InputRule) → r ∈ rules_at n ws → FormedWithin most_literals r

-- a table that was read with sums of 64 literals
pub record ReadLong (rules top : ℕ) (table : List ℤ) : Type 0 where
  pub held : RulesHeld rules table
  pub few : rules ≤ most_rules
  pub atom : top ≡ atoms (rules_at rules table)
  pub low : top ≤ largest
  pub words : table ≡ table_words (length table) (rules_at rules table)

-- a sum of more than 12 literals
abbrev pub is_long : Body → Bool
is_long (plain ls) = false
is_long (weights b l) = ltb most_weighted (length l)

-- how a rule is split, with groups of g literals
abbrev pub item_of : (g : ℕ) → InputRule → Item
item_of g r = plan_body (sorted_groups (g - 1)) r r.body

-- no sum has more new atoms
abbrev pub most_new : ℕ
most_new = 1000000

-- the lines of an item whose new atoms are numbered from n on, and the next new atom
pub record ItemEmitted (i : Item) (before after : List ℕ) (p : Place) (n : ℕ) (q : Numbered) : Type 0 where
  pub rules : Emits (split_item n i) before after p q.place
  pub atom : q.place.rules ≤ most_rules → q.atom ≡ n + needs i
  pub low : q.atom ≤ n + most_new

-- those of items one after another
pub record ItemsEmitted (is : List Item) (before after : List ℕ) (p : Place) (n : ℕ) (q : Numbered) : Type 0 where
  pub rules : Emits (in_turn split_item n is) before after p q.place
  pub atom : q.place.rules ≤ most_rules → q.atom ≡ n + all_needs is

-- the text of a program from the first byte on, and the next new atom
pub record ProgramWritten (rs : List InputRule) (before after : List ℕ) (q : Numbered) : Type 0 where
  pub rules : q.place.rules ≡ min too_many (length rs)
  pub text : q.place.rules ≤ most_rules → Put (program_text rs) before after 0 q.place.at
  pub atom : q.place.rules ≤ most_rules → q.atom ≡ suc (atoms rs)
