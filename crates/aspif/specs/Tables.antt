-- The table read again: question 41 of document 01, as the paper puts it and as a test of the words, and the rules that they hold.
-- specs/Claims.antt says that the two agree.
-- Assumes nothing.
use Rattle.std.specs.Prelude.{◌≡◌, Bool, cond, ◌&&◌, ◌||◌, List, [], ◌∷◌, map, ℕ, zero, suc, ◌+◌, ◌*◌, leb, ℤ, pos, length, take, drop, get_or}
use Rattle.std.proofs.Math.Option.{Option, none, some}
use Rattle.std.specs.Int.Signed.{lt_z}
use Rattle.words.specs.Limits.{largest, most_rules}
use Rattle.words.specs.Lists.{all, ascends}
use Rattle.words.specs.Literals.{variable, same}
use Rattle.weights.specs.Weights.{literals, paired, most_weighted}
use Rattle.aspif.specs.Rules.{Body, plain, weights, InputRule, suits, is_count, is_weight, table_words}
use Rattle.aspif.specs.Reading.{program, read_lines, all_weights}
use Rattle.aspif.specs.declared.Kind.{Kind}
use Rattle.aspif.specs.declared.Kind.TheVariants.{Normal, Choice}

-- "Is the table one that the program reader leaves for some program with that rule count, were question 1 not put?": the rules
-- are those of such a program
pub record ReadAs (table : List ℤ) (rules : ℕ) (rs : List InputRule) : Type 0 where
  pub text : List ℕ
  pub read : read_lines (length table) text ≡ program rs
  pub count : length rs ≡ rules
  pub words : table ≡ table_words (length table) rs

abbrev pub ReadTable : List ℤ → ℕ → Type 0
ReadTable table rules = (rs : List InputRule) × ReadAs table rules rs

-- "head kind (0 normal, 1 choice)"
abbrev pub kind_of : ℤ → Kind
kind_of w = cond (same w (pos 1)) Choice Normal

-- "head kind present and 0 or 1"
abbrev pub is_kind : ℤ → Bool
is_kind w = same w (pos 0) || same w (pos 1)

-- heads, from 1 to the largest variable, ascending
abbrev pub heads_sound : List ℤ → Bool
heads_sound hs = all (λ h. lt_z (pos 0) h) hs && ascends 0 largest (map variable hs)

-- "body literals ascending by atom", with atoms from 1 to the largest variable
abbrev pub literals_sound : List ℤ → Bool
literals_sound ls = ascends 0 largest (map variable ls)

-- "head kind, head count," body kind, "body count," with kind 1 the bound, "heads ascending, body literals ascending by atom", with
-- kind 1 each with its weight behind it, at the front of some words
module _ (ws : List ℤ) where
  abbrev pub head_count : ℕ
  head_count = variable (get_or ws 1 (pos 0))

  -- body kind 1
  abbrev pub is_weighted : Bool
  is_weighted = same (get_or ws 2 (pos 0)) (pos 1)

  abbrev pub body_count : ℕ
  body_count = variable (get_or ws 3 (pos 0))

  -- where the heads begin
  abbrev pub head_start : ℕ
  head_start = cond is_weighted 5 4

  -- how many words the body takes
  abbrev pub body_length : ℕ
  body_length = cond is_weighted (2 * body_count) body_count

  -- how many words the rule takes
  unfoldable pub size_at : ℕ
  size_at = head_start + head_count + body_length

  unfoldable pub heads_at : List ℤ
  heads_at = take head_count (drop head_start ws)

  -- the words of the body: its literals, each with its weight behind it where the body kind is 1
  unfoldable pub body_words_at : List ℤ
  body_words_at = take body_length (drop (head_start + head_count) ws)

  unfoldable pub bound_at : ℕ
  bound_at = variable (get_or ws 4 (pos 0))

  unfoldable pub body_at : Body
  body_at = cond is_weighted (weights bound_at (paired body_words_at)) (plain body_words_at)

  abbrev pub rule_at : InputRule
  rule_at = record { kind = kind_of (get_or ws 0 (pos 0)); heads = heads_at; body = body_at }

  -- the first word is a head kind, and the head count suits it
  abbrev pub is_headed : Bool
  is_headed = is_kind (get_or ws 0 (pos 0)) && suits (kind_of (get_or ws 0 (pos 0))) head_count

  -- the counts and the kinds are such, and the words are there; body kinds are 0 and 1, as head kinds are
  unfoldable pub shape_sound : Bool
  shape_sound =
      is_count (get_or ws 1 (pos 0))
      && (is_kind (get_or ws 2 (pos 0)) && (is_count (get_or ws 3 (pos 0)) && (is_headed && leb size_at (length ws))))

  -- body kind 0 or 1, at most 12 pairs, bound and weights 0 to 4,095
  unfoldable pub weights_sound : Bool
  weights_sound =
      leb body_count most_weighted
      && (is_weight (get_or ws 4 (pos 0)) && (all_weights body_words_at && literals_sound (literals (paired body_words_at))))

  unfoldable pub body_sound : Bool
  body_sound = cond is_weighted weights_sound (literals_sound body_words_at)

  unfoldable pub sound_at : Bool
  sound_at = shape_sound && (heads_sound heads_at && body_sound)

-- the rules whose words stand one after another
abbrev pub rules_at : ℕ → List ℤ → List InputRule
rules_at zero ws = []
rules_at (suc n) ws = rule_at ws ∷ rules_at n (drop (size_at ws) ws)

-- the words from each of so many rules on, which stand one after another
abbrev pub starts_at : ℕ → List ℤ → List (List ℤ)
starts_at zero ws = []
starts_at (suc n) ws = ws ∷ starts_at n (drop (size_at ws) ws)

-- so many rules stand there, and "All later words are 0."
abbrev pub sound_rules : ℕ → List ℤ → Bool
sound_rules zero ws = all (same (pos 0)) ws
sound_rules (suc n) ws = sound_at ws && sound_rules n (drop (size_at ws) ws)

-- "At most 1,024 rules."
unfoldable pub sound_table : List ℤ → ℕ → Bool
sound_table table rules = leb rules most_rules && sound_rules rules table

-- the rules of a table that question 41 lets pass
abbrev pub rules_of : List ℤ → ℕ → Option (List InputRule)
rules_of table rules = cond (sound_table table rules) (some (rules_at rules table)) none
