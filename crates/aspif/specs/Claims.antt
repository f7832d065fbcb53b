-- What is claimed of the reader's definition and of the table read again, as statements. proofs/InTurn.antt proves the first,
-- proofs/Formed.antt the second, proofs/Readable.antt the third.
-- Assumes nothing.
use Rattle.std.specs.Prelude.{◌≡◌, ◌↔◌, true, false, List, [], ◌∷◌, ◌++◌, ℕ, ◌+◌, ◌-◌, ◌≤◌, ℤ, pos, length, drop}
use Rattle.std.proofs.Math.Option.{some}
use Rattle.std.specs.Int.Signed.{lt_z}
use Rattle.words.specs.Limits.{most_literals, most_rules}
use Rattle.words.specs.Lists.{◌∈◌, all}
use Rattle.words.specs.Literals.{has, rising}
use Rattle.text.specs.Line.{line_of, any_outside}
use Rattle.weights.specs.Weights.{Weighted, most_weight, most_weighted}
use Rattle.aspif.specs.Rules.{Body, plain, weights, InputRule, literals_of, suits, program_words}
use Rattle.aspif.specs.Reading.{Reading, refused, program, Turn, turn_within, header, read_lines_within, read_lines}
use Rattle.text.specs.Strings.{starts_with}
use Rattle.aspif.specs.Reading as Reading
use Rattle.aspif.specs.Tables.{ReadAs, rules_of}
use Rattle.aspif.specs.declared.ProgramFault.{ProgramFault}

-- What the lines of a text come to from here on, with no bound on the turns: the bytes that are left, the number of the line that they
-- begin with, and the rules before it. "The first "no" decides": `refuses` is a line that fails one of questions 3 to 11, 54 and 55, `ends` the
-- line `0` at the text's end, `adds` a rule, and then the lines after it.
module _ (most size : ℕ) where
  -- the turn that the next line takes
  abbrev pub turn_at : List ℕ → List InputRule → Turn
  turn_at s rs = turn_within most (length rs) (size - length (program_words rs)) (length s) (line_of s)

  pub data InTurn : List ℕ → (line : ℕ) → List InputRule → Reading → Type 0 where
    refuses : {s : List ℕ} {line : ℕ} {k : ProgramFault} {rs : List InputRule} → turn_at s rs ≡ Reading.refuses k → InTurn s line rs (refused k line)
    ends : {s : List ℕ} {line : ℕ} {rs : List InputRule} → turn_at s rs ≡ Reading.ends → InTurn s line rs (program rs)
    adds : {s : List ℕ} {line n : ℕ} {rs : List InputRule} {r : InputRule} {c : Reading} → turn_at s rs ≡ Reading.adds r n
        → InTurn (drop n s) (line + 1) (rs ++ (r ∷ [])) c → InTurn s line rs c

-- a text that begins with line 1 as said is read as its lines come to in turn, from line 2 on, and as nothing else
abbrev pub LineByLine : Type 0
LineByLine =
    (size : ℕ) (text : List ℕ) (c : Reading) → starts_with header text ≡ true
    → (read_lines size text ≡ c) ↔ InTurn most_weighted size (drop (length header) text) 2 [] c

-- "Bound and weights are 0 to 4,095; at most 12 literals", with `most` in place of 12, of a weight body
abbrev pub WeighingWithin : (most : ℕ) → Body → Type 0
WeighingWithin most (plain ls) = Unit {0}
WeighingWithin most (weights b l) = (length l ≤ most) × (b ≤ most_weight) × ((x : Weighted) → x ∈ l → x.weight ≤ most_weight)

-- A rule that passes questions 4 to 8, 54 and 55, the last put with `most` literals, its heads and its literals ascending
pub record FormedWithin (most : ℕ) (r : InputRule) : Type 0 where
  pub heads-few : length r.heads ≤ most_literals
  pub body-few : length (literals_of r.body) ≤ most_literals
  pub headed : suits r.kind (length r.heads) ≡ true
  pub positive : all (λ h. lt_z (pos 0) h) r.heads ≡ true
  pub heads-rise : rising r.heads ≡ true
  pub nonzero : has (pos 0) (literals_of r.body) ≡ false
  pub body-rise : rising (literals_of r.body) ≡ true
  pub heads-in : any_outside r.heads ≡ false
  pub body-in : any_outside (literals_of r.body) ≡ false
  pub weighing : WeighingWithin most r.body

-- A program that passes questions 9 and 10 too, for a table of `size` words
pub record FitsWithin (most size : ℕ) (rs : List InputRule) : Type 0 where
  pub formed : (r : InputRule) → r ∈ rs → FormedWithin most r
  pub few : length rs ≤ most_rules
  pub room : length (program_words rs) ≤ size

-- a program that is read is formed, and fits
abbrev pub ReadFits : Type 0
ReadFits = (most size : ℕ) (text : List ℕ) (rs : List InputRule) → read_lines_within most size text ≡ program rs → FitsWithin most size rs

-- question 41: the rules computed from a table are those of a program that the reader reads so
abbrev pub TableRead : Type 0
TableRead = (table : List ℤ) (rules : ℕ) (rs : List InputRule) → (rules_of table rules ≡ some rs) ↔ ReadAs table rules rs
