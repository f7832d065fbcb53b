-- What `split_sums` answers and leaves, of the program text, the group size and the lengths of table and output. The
-- questions are those of document 01 with all changes, but question 55 is put with 64 literals in place of 12; 65 and
-- 66 come after them.
-- Assumes nothing.
use Rattle.std.specs.Prelude.{◌≡◌, Result, Ok, Err, Bool, cond, ◌&&◌, List, ◌++◌, ℕ, ◌-◌, leb, ℤ, pos, length, replicate}
use Rattle.words.specs.Limits.{largest, longest, most_literals, most_rules}
use Rattle.weights.specs.Weights.{most_weighted}
use Rattle.aspif.specs.Rules.{InputRule, atoms, table_words}
use Rattle.aspif.specs.Text.{program_text}
use Rattle.aspif.specs.Reading.{Reading, program, read_text_within}
use Rattle.sums.specs.Levels.{split_program, sorted_groups}
use Rattle.aspif.specs.declared.Refusal.{Refusal}
use Rattle.aspif.specs.declared.Refusal.TheVariants.{Program, Service}
use Rattle.long_sums.specs.declared.SplitCounts.{SplitCounts}
use Rattle.long_sums.specs.declared.SplitFault.{SplitFault}
use Rattle.long_sums.specs.declared.SplitFault.TheVariants.{WrongGroupSize, TooLarge}

-- what the program is split into, or why it is refused
abbrev pub SplitAnswer : Type 0
SplitAnswer = Result SplitCounts (Refusal SplitFault)

-- of a text that is written: how many bytes, atoms and rules it has, and the atoms of the program as written
abbrev pub split_into : ℕ → ℕ → ℕ → ℕ → SplitAnswer
split_into b a r n = Ok (record { bytes = b; atoms = a; rules = r; old_atoms = n })

-- the answer with every word of the table and every byte of the output
pub record SplitLeft : Type 0 where
  pub answer : SplitAnswer
  pub table : List ℤ
  pub output : List ℕ

-- question 65: a group has 2 to 12 literals
abbrev pub is_group_size : ℕ → Bool
is_group_size g = leb 2 g && leb g most_weighted

-- question 66: at most 1,024 rules, no atom above 8,191, a text of at most 65,535 bytes that fits the output
abbrev pub is_writable : (room : ℕ) → List InputRule → Bool
is_writable o rs =
    leb (length rs) most_rules
    && (leb (atoms rs) largest && (leb (length (program_text rs)) longest && leb (length (program_text rs)) o))

-- the lengths of table and output
module _ (t o : ℕ) where
  -- a refusal zeroes both
  abbrev pub zeroed : SplitAnswer → SplitLeft
  zeroed a = record { answer = a; table = replicate t (pos 0); output = replicate o 0 }

  -- the text of the split program, with its atoms and rules and the atoms of the program as written, and 0 after it;
  -- the table holds the program as written
  abbrev pub written : (ws rs : List InputRule) → SplitLeft
  written ws rs = record {
    answer = split_into (length (program_text rs)) (atoms rs) (length rs) (atoms ws);
    table = table_words t ws;
    output = program_text rs ++ replicate (o - length (program_text rs)) 0;
  }

  abbrev pub split_to : (ws rs : List InputRule) → SplitLeft
  split_to ws rs = cond (is_writable o rs) (written ws rs) (zeroed (Err (Service TooLarge)))

  abbrev pub split_reading : (group : ℕ) → Reading → SplitLeft
  split_reading g (Reading.refused k n) = zeroed (Err (Program (record { fault = k; line = n })))
  split_reading g (program ws) = cond (is_group_size g) (split_to ws (split_program (sorted_groups (g - 1)) ws)) (zeroed (Err (Service WrongGroupSize)))

  unfoldable pub split_text : (text : List ℕ) → (group : ℕ) → SplitLeft
  split_text text g = split_reading g (read_text_within most_literals t text)

-- the public contract of `split_sums`, whatever it is lent
abbrev pub SplitSums : (text : List ℕ) (group : ℕ) → (table table' : List ℤ) → (output output' : List ℕ) → SplitAnswer → Type 0
SplitSums text g table table' output output' r =
    record { answer = r; table = table'; output = output' } ≡ split_text (length table) (length output) text g
