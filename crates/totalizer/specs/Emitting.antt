-- What the private functions say of rules' lines in the lent output. No reader of the public contract needs it.
-- Assumes nothing.
use Rattle.std.specs.Prelude.{◌≡◌, List, [], ◌∷◌, ◌++◌, map, ℕ, suc, ◌+◌, ◌*◌, ◌/◌, ◌≤◌, min, cond, ℤ, pos, length, take, get_or}
use Rattle.words.specs.Limits.{most_rules, most_literals}
use Rattle.words.specs.Lists.{concat}
use Rattle.text.specs.Decimals.{spaced}
use Rattle.text.specs.Writing.{Put}
use Rattle.aspif.specs.Rules.{InputRule}
use Rattle.aspif.specs.Tables.{is_weighted, heads_at, body_words_at}
use Rattle.aspif.specs.Text.{rule_text}
use Rattle.totalizer.specs.declared.texts.Place.{Place}

-- the numbers of the longest line: kind, count and heads, kind, bound and count, and 64 literals each with its weight
abbrev pub most_line : ℕ
most_line = 5 + most_literals + 2 * most_literals

-- the line of a rule with these numbers
unfoldable pub line_of : List ℤ → List ℕ
line_of zs = 49 ∷ (spaced zs ++ (10 ∷ []))

-- the numbers of a rule's line, of the words of the rule at the front
module _ (ws : List ℤ) where
  -- up to its heads
  abbrev pub head_numbers : List ℤ
  head_numbers = take 2 ws ++ heads_at ws

  -- its bound, with a weight body
  abbrev pub bound_numbers : List ℤ
  bound_numbers = cond (is_weighted ws) (get_or ws 4 (pos 0) ∷ []) []

  -- behind its heads
  abbrev pub body_numbers_at : List ℤ
  body_numbers_at = get_or ws 2 (pos 0) ∷ (bound_numbers ++ (get_or ws 3 (pos 0) ∷ body_words_at ws))

-- the numbers of the line of a rule that gives an atom where the pairs weigh at least the level
abbrev pub sum_numbers : (atom level : ℕ) → (pairs : List ℤ) → List ℤ
sum_numbers atom level ws = pos 0 ∷ pos 1 ∷ pos atom ∷ pos 1 ∷ pos level ∷ pos (length ws / 2) ∷ ws

-- the rules' lines
abbrev pub texts_of : List InputRule → List ℕ
texts_of rs = concat (map rule_text rs)

-- one rule more than a program may have
abbrev pub too_many : ℕ
too_many = suc most_rules

-- so many rules take no more bytes, after line 1
pub record Bounded (p : Place) : Type 0 where
  pub counted : p.rules ≤ too_many
  pub low : p.at ≤ 10 + (22 * most_line + 2) * p.rules

-- The rules are counted, up to one more than there may be, and where there are not more they stand from the first place
-- up to the second.
pub record Emits (rs : List InputRule) (before after : List ℕ) (p q : Place) : Type 0 where
  pub rules : q.rules ≡ min too_many (p.rules + length rs)
  pub text : q.rules ≤ most_rules → Put (texts_of rs) before after p.at q.at
  pub long : length after ≡ length before
  pub bounded : Bounded q
