-- What the private functions of the reader say of one line. No reader of the public contract needs it.
-- Assumes nothing.
use Rattle.std.specs.Prelude.{◌≡◌, Bool, ◌&&◌, List, ◌++◌, map, ℕ, ◌+◌, ◌*◌, ℤ, pos, length, take, drop, get_or, Result, Ok, Err, Option, Some, None}
use Rattle.words.specs.Literals.{variable, ascending}
use Rattle.weights.specs.Weights.{Weighted, paired}
use Rattle.aspif.specs.Rules.{plain, weights, InputRule, atoms, rule_top, rule_words, program_words}
use Rattle.words.specs.Limits.{most_literals}
use Rattle.aspif.specs.Reading.{heads_good, body_good, with_weight, Turn, refuses, ends, adds, Reading, refused, program}
use Rattle.aspif.specs.declared.Kind.{Kind}
use Rattle.aspif.specs.declared.rules.RuleAdded.{RuleAdded}
use Rattle.aspif.specs.declared.lines.LinesTaken.{LinesTaken}
use Rattle.aspif.specs.declared.ProgramFault.{ProgramFault}
use Rattle.aspif.specs.declared.ProgramRefusal.{ProgramRefusal}

-- the numbers of the longest rule line: three before the heads, three before the pairs of a weight body, 64 heads and 64 pairs
abbrev pub row_size : ℕ
row_size = 6 + most_literals + 2 * most_literals

-- the heads, the body, the bound and the pairs of a rule line, as they stand in its row
abbrev pub row_heads : List ℤ → ℕ → List ℤ
row_heads row heads = take heads (drop 3 row)

abbrev pub row_body : List ℤ → ℕ → ℕ → List ℤ
row_body row heads body = take body (drop (5 + heads) row)

abbrev pub row_bound : List ℤ → ℕ → ℕ
row_bound row heads = variable (get_or row (4 + heads) (pos 0))

abbrev pub row_pairs : List ℤ → ℕ → ℕ → List ℤ
row_pairs row heads body = take (2 * body) (drop (6 + heads) row)

abbrev pub row_rule : List ℤ → Kind → ℕ → ℕ → InputRule
row_rule row k heads body = record { kind = k; heads = row_heads row heads; body = plain (row_body row heads body) }

-- the literals, each with its weight in the pairs
abbrev pub weighted : List ℤ → List ℤ → List Weighted
weighted pairs ls = map (with_weight (paired pairs)) ls

-- a rule with a weight body, whose literals stand sorted beside the row
abbrev pub row_weighed : List ℤ → List ℤ → Kind → ℕ → InputRule
row_weighed row ls k heads =
    record { kind = k; heads = row_heads row heads; body = weights (row_bound row heads) (weighted (row_pairs row heads (length ls)) ls) }

-- question 8 of a row, whose heads and body are sorted afterwards
pub record Sorted (before after : List ℤ) (heads body : ℕ) (r : Bool) : Type 0 where
  pub good : r ≡ (heads_good (row_heads before heads) && body_good (row_body before heads body))
  pub in_heads : row_heads after heads ≡ ascending (row_heads before heads)
  pub in_body : row_body after heads body ≡ ascending (row_body before heads body)
  pub long : length after ≡ length before

-- What the private functions tell of a turn: the bytes, the words and the largest atom of a rule that it adds
abbrev pub turn_told : Turn → Result (Option RuleAdded) ProgramFault
turn_told (refuses k) = Err k
turn_told ends = Ok None
turn_told (adds r n) = Ok (Some (record { next = n; words = length (rule_words r); top = rule_top r }))

-- the free words of the table after a turn: a rule that it adds stands at their front
abbrev pub free_after : Turn → List ℤ → List ℤ
free_after (refuses k) free = free
free_after ends free = free
free_after (adds r n) free = rule_words r ++ drop (length (rule_words r)) free

pub record TurnTaken (t : Turn) (before after : List ℤ) (r : Result (Option RuleAdded) ProgramFault) : Type 0 where
  pub told : r ≡ turn_told t
  pub words : after ≡ free_after t before

-- What the lines after the first leave: the words of the rules at the front of the table, which is as long as it was.
abbrev pub lines_told : Reading → Result LinesTaken ProgramRefusal
lines_told (refused k line) = Err (record { fault = k; line = line })
lines_told (program rs) = Ok (record { atoms = atoms rs; rules = length rs; used = length (program_words rs) })

abbrev pub Front : Reading → List ℤ → Type 0
Front (refused k line) after = Unit {0}
Front (program rs) after = take (length (program_words rs)) after ≡ program_words rs

pub record LinesRead (reading : Reading) (before after : List ℤ) (r : Result LinesTaken ProgramRefusal) : Type 0 where
  pub told : r ≡ lines_told reading
  pub front : Front reading after
  pub long : length after ≡ length before
