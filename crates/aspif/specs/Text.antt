-- A program as text, in the words of a writer: document 01, 'Program text', and Change 3. Heads and literals may stand in any order.
-- Assumes nothing.
use Rattle.std.specs.Prelude.{List, [], ◌∷◌, ◌++◌, ℕ, ℤ, pos, length}
use Rattle.text.specs.Decimals.{spaced}
use Rattle.text.specs.Strings.{bytes}
use Rattle.weights.specs.Weights.{pair_words}
use Rattle.aspif.specs.Rules.{Body, plain, weights, InputRule, kind_word}

-- "body kind 0, body count, body literals"; "(kind 1, bound, literals each with a weight)", with the
-- count of the literals after the bound
abbrev pub body_numbers : Body → List ℤ
body_numbers (plain ls) = pos 0 ∷ pos (length ls) ∷ ls
body_numbers (weights b ps) = pos 1 ∷ pos b ∷ pos (length ps) ∷ pair_words ps

-- "head kind (0 normal, 1 choice), head count, heads," and the body
abbrev pub rule_numbers : InputRule → List ℤ
rule_numbers r =
    kind_word r.kind ∷ pos (length r.heads) ∷ (r.heads ++ body_numbers r.body)

-- "Each line between is one rule: `1`, .."; each number after a space; "Lines end in a newline
-- byte", which is 10
unfoldable pub rule_text : InputRule → List ℕ
rule_text r = bytes "1" ++ (spaced (rule_numbers r) ++ (10 ∷ []))

-- the rules' lines; "the last is `0`"
unfoldable pub rules_text : List InputRule → List ℕ
rules_text [] = bytes "0" ++ (10 ∷ [])
rules_text (r ∷ rs) = rule_text r ++ rules_text rs

-- "The first line is `asp 1 0 0`"
unfoldable pub program_text : List InputRule → List ℕ
program_text rs = bytes "asp 1 0 0" ++ (10 ∷ rules_text rs)
