-- Proof lines: document 01, 'The proof's seven letters' and questions 21 to 25.
-- Assumes nothing.
use Rattle.std.specs.Prelude.{Bool, true, false, cond, not, ◌&&◌, ◌||◌, ◌≡◌, List, [], ◌∷◌, ◌++◌, ℕ, ◌+◌, ◌-◌, ◌<◌, ◌≤◌, eqb, ltb, ℤ, pos, length, take, drop, replicate, Result, Ok, Err}
use Rattle.std.specs.Prelude.{Option, None, Some}
use Rattle.std.specs.Int.Signed.{lt_z}
use Rattle.words.specs.Limits.{longest, most_numbers}
use Rattle.words.specs.Lists.{all}
use Rattle.words.specs.Literals.{distinct}
use Rattle.text.specs.Bytes.{class_of}
use Rattle.text.specs.Line.{Line, broken, numbers, line_of, any_outside, is_closed}
use Rattle.text.specs.declared.Letter.{Letter}
use Rattle.text.specs.declared.Letter.TheVariants.{Addition, Body, Completion, Deletion, Extension, Loop, Support}
use Rattle.text.specs.declared.Class.{Class}
use Rattle.text.specs.declared.Class.TheVariants.{Newline, Space, Minus, Digit, Step, Other}
use Rattle.drupe.specs.declared.Signs.{Signs}
use Rattle.drupe.specs.declared.ProofLine.{ProofLine}
use Rattle.drupe.specs.declared.ProofFault.{ProofFault}
use Rattle.drupe.specs.declared.LineReading.{LineReading}
use Rattle.drupe.specs.declared.ProofFault.TheVariants.{TooLong, Malformed, OutOfRange, WrongSigns, RepeatedVariable}

-- the place of a letter in the table of signs
abbrev pub place_of : Letter → ℕ
place_of Addition = 0
place_of Body = 1
place_of Completion = 2
place_of Deletion = 3
place_of Extension = 4
place_of Loop = 5
place_of Support = 6

-- "Is a first number there for `b c e l s`", "signed is meant for `a`, `d`, and the later numbers of `b` and `e`. All others
-- are positive."
abbrev pub signs_of : Letter → Signs
signs_of Addition = record { needed = false; first = false; later = false }
signs_of Body = record { needed = true; first = true; later = false }
signs_of Completion = record { needed = true; first = true; later = true }
signs_of Deletion = record { needed = false; first = false; later = false }
signs_of Extension = record { needed = true; first = true; later = false }
signs_of Loop = record { needed = true; first = true; later = true }
signs_of Support = record { needed = true; first = true; later = true }

abbrev pub is_positive : ℤ → Bool
is_positive z = lt_z (pos 0) z

-- question 24 of a letter's numbers
abbrev pub signed : Signs → List ℤ → Bool
signed k [] = not k.needed
signed k (z ∷ zs) = (not k.first || is_positive z) && (not k.later || all is_positive zs)

-- Questions 23 to 25 of a line's numbers, in order: none where all are passed.
-- "Sizes at most 4,095" (8,191 since Change 6), "at most 65 numbers? 23. Is a first number there for `b c e l s`, and every sign as told? 24. Is no
-- variable named twice in the line? 25."
abbrev pub line_refusal : Letter → List ℤ → Option ProofFault
line_refusal x zs =
    cond (any_outside zs || ltb most_numbers (length zs)) (Some OutOfRange)
    (cond (signed (signs_of x) zs) (cond (distinct zs) None (Some RepeatedVariable)) (Some WrongSigns))

-- no question is answered no
abbrev pub all_passed : Option ProofFault → Bool
all_passed None = true
all_passed (Some k) = false

-- what stands at a position: the end, a refusal, or a line's letter with its numbers and the position after its newline
pub data LineAt : Type 0 where
  end : LineAt
  refused : ProofFault → LineAt
  line : Letter → List ℤ → ℕ → LineAt

-- the first question that is answered no, or else what is read
abbrev pub refused_or : Option ProofFault → LineAt → LineAt
refused_or (Some k) l = refused k
refused_or None l = l

-- questions 23 to 25 of a line's numbers, which end before position `next`
abbrev pub line_asked : Letter → List ℤ → ℕ → LineAt
line_asked x zs next = refused_or (line_refusal x zs) (line x zs next)

-- The shape of a line: "the letter, a space, .. nonzero numbers, a closing `0`, newline"

-- of a shape as told, what questions 23 to 25 say of the numbers before the closing 0; the line's numbers begin at `from` and
-- take n bytes
abbrev pub of_numbers : Letter → ℕ → Line → LineAt
of_numbers x from broken = refused Malformed
of_numbers x from (numbers zs n) = cond (is_closed zs) (line_asked x (take (length zs - 1) zs) (from + n)) (refused Malformed)

abbrev pub is_space : Class → Bool
is_space Space = true
is_space Newline = false
is_space Minus = false
is_space (Digit d) = false
is_space (Step x) = false
is_space Other = false

-- the space after the letter and what follows it, from a position on
abbrev pub after_letter : Letter → ℕ → List ℕ → LineAt
after_letter x from [] = refused Malformed
after_letter x from (b ∷ s) = cond (is_space (class_of b)) (of_numbers x (from + 1) (line_of s)) (refused Malformed)

-- a line's first byte is a letter, and what follows it
abbrev pub after_first : Class → ℕ → List ℕ → LineAt
after_first (Step x) from s = after_letter x from s
after_first Newline from s = refused Malformed
after_first Space from s = refused Malformed
after_first Minus from s = refused Malformed
after_first (Digit d) from s = refused Malformed
after_first Other from s = refused Malformed

-- question 22 and those after it, of the line that begins at position `from`, where the text s is left
abbrev pub line_from : ℕ → List ℕ → LineAt
line_from from [] = refused Malformed
line_from from (b ∷ s) = after_first (class_of b) (from + 1) s

-- What stands at a position of a text, however long the text is: "At a position equal to the text's length it answers "end" ..; a
-- position past the length is 22."
abbrev pub line_at : List ℕ → ℕ → LineAt
line_at text at = cond (eqb at (length text)) end (line_from at (drop at text))

-- "puts questions 21 to 25 to the line that starts there": "At most 65,535 bytes? 21.", then what stands at the position
abbrev pub line_read : List ℕ → ℕ → LineAt
line_read text at = cond (ltb longest (length text)) (refused TooLong) (line_at text at)

-- What `read_line` answers

-- "it answers the letter, the numbers .., their count and the position after the newline. Its refusal returns the number alone."
abbrev pub line_answer : LineAt → Result (Option ProofLine) ProofFault
line_answer end = Ok None
line_answer (refused k) = Err k
line_answer (line x zs next) = Ok (Some (record { letter = x; count = (length zs); next = next }))

-- "the numbers as written without the closing 0", with zeros after them; all 0 unless a line is answered
abbrev pub numbers_of : LineAt → List ℤ
numbers_of end = replicate most_numbers (pos 0)
numbers_of (refused k) = replicate most_numbers (pos 0)
numbers_of (line x zs next) = zs ++ replicate (most_numbers - length zs) (pos 0)

-- an answered line ends past the position, within a text of n bytes, and has no more numbers than the array
abbrev pub AnswerBounds : (at size : ℕ) → (Result (Option ProofLine) ProofFault) → Type 0
AnswerBounds at n (Ok None) = Unit {0}
AnswerBounds at n (Err k) = Unit {0}
AnswerBounds at n (Ok (Some l)) = (at < l.next) × (l.next ≤ n) × (l.count ≤ most_numbers)

pub record ProofLineRead (s : List ℕ) (at : ℕ) (r : LineReading) : Type 0 where
  pub answer : r.answer ≡ line_answer (line_read s at)
  pub numbers : r.numbers ≡ numbers_of (line_read s at)
  pub within : AnswerBounds at (length s) r.answer

-- where a reader stands that was at a position and answered: after a line's newline, else where it was
abbrev pub position_after : Result (Option ProofLine) ProofFault → ℕ → ℕ
position_after (Ok None) at = at
position_after (Err k) at = at
position_after (Ok (Some l)) at = l.next
