-- How a program text is read: document 01, 'Program text' and questions 1 to 11, in their order, with questions 54 and 55 of Change 3
-- between 6 and 7.
-- Assumes nothing.
use Rattle.std.specs.Prelude.{◌≡◌, Bool, true, false, cond, not, ◌&&◌, List, [], ◌∷◌, ◌++◌, map, ℕ, zero, suc, ◌+◌, ◌*◌, ◌-◌, eqb, ltb, leb, ℤ, pos, length, take, drop, get_or, replicate, Result, Ok, Err}
use Rattle.std.specs.Int.Signed.{lt_z}
use Rattle.words.specs.Limits.{longest, most_rules}
use Rattle.words.specs.Lists.{all}
use Rattle.weights.specs.Weights.{Weighted, literals, paired, most_weighted}
use Rattle.words.specs.Literals.{variable, same, has, distinct, ascending}
use Rattle.text.specs.Strings.{starts_with}
use Rattle.text.specs.Line.{Line, broken, numbers, line_of, any_outside}
use Rattle.aspif.specs.Rules.{Body, plain, weights, InputRule, suits, is_count, is_weight, atoms, rule_words, program_words, table_words}
use Rattle.aspif.specs.declared.Kind.{Kind}
use Rattle.aspif.specs.declared.Kind.TheVariants.{Normal, Choice}
use Rattle.aspif.specs.declared.rules.Shape.{Shape}
use Rattle.aspif.specs.declared.rules.Shape.TheVariants.{Shaped, Weighed}
use Rattle.aspif.specs.declared.ProgramCounts.{ProgramCounts}
use Rattle.aspif.specs.declared.ProgramRefusal.{ProgramRefusal}
use Rattle.aspif.specs.declared.ProgramFault.TheVariants.{TooLong, NoHeader, Malformed, TooLarge, WrongKind, WrongCount, UnsuitedHeads, WrongLiterals, TooManyRules, TableFull, TextAfterEnd, WeightOutOfRange, TooManyWeights}
use Rattle.aspif.specs.declared.ProgramFault.{ProgramFault}

-- One line's numbers

-- "Does the head count suit its kind? 7." of a line with that shape otherwise
abbrev pub suited : Kind → (heads : ℕ) → (Result Shape ProgramFault) → Result Shape ProgramFault
suited k heads s = cond (suits k heads) s (Err UnsuitedHeads)

-- the second of each two words is a weight
unfoldable pub all_weights : List ℤ → Bool
all_weights [] = true
all_weights (z ∷ []) = false
all_weights (z ∷ w ∷ l) = is_weight w && all_weights l

module _ (zs : List ℤ) where
  -- "a weight or bound out of its range is 54": the bound, and the weights of so many literals
  unfoldable pub ranged : (heads body : ℕ) → Bool
  ranged heads body = is_weight (get_or zs (4 + heads) (pos 0)) && all_weights (take (2 * body) (drop (6 + heads) zs))

-- "more than 12 literals 55", after 54, with `most` in place of 12. Question 55 is all that the number decides. The reader of the documents
-- puts it with 12, and one that takes longer sums with more: what depends on it is said `Within` a number, and below once more with 12.
abbrev pub few_within : (most : ℕ) → List ℤ → Kind → (heads body : ℕ) → Result Shape ProgramFault
few_within most zs k heads body =
    cond (ranged zs heads body) (cond (leb body most) (suited k heads (Ok (Weighed k heads body))) (Err TooManyWeights)) (Err WeightOutOfRange)

module _ (zs : List ℤ) (count : ℕ) where
  -- number i of a line of `count` numbers, from 0, is there and is n
  abbrev pub is_at : ℕ → ℤ → Bool
  is_at i n = ltb i count && same (get_or zs i (pos 0)) n

  -- "Are both counts present, 0 to 64", of number i
  abbrev pub is_count_at : ℕ → Bool
  is_count_at i = ltb i count && is_count (get_or zs i (pos 0))

  -- body kind 0: the body count, matched by what follows
  abbrev pub plain_shape : Kind → ℕ → Result Shape ProgramFault
  plain_shape k heads =
      let body = variable (get_or zs (4 + heads) (pos 0)) in
      cond (is_count_at (4 + heads) && eqb (5 + heads + body) count) (suited k heads (Ok (Shaped k heads body))) (Err WrongCount)

module _ (most : ℕ) (zs : List ℤ) (count : ℕ) where
  -- body kind 1: the bound, the count of literals, and then a literal and a weight for each; "a missing bound or weight is 6"
  abbrev pub weighed_within : Kind → ℕ → Result Shape ProgramFault
  weighed_within k heads =
      let body = variable (get_or zs (5 + heads) (pos 0)) in
      cond (is_count_at zs count (5 + heads) && eqb (6 + heads + 2 * body) count) (few_within most zs k heads body) (Err WrongCount)

  -- "once the heads are passed, the body kind present and 0", or 1: "Question 5 then admits body kind 1"
  abbrev pub body_within : Kind → ℕ → Result Shape ProgramFault
  body_within k heads =
      cond (is_at zs count (3 + heads) (pos 0)) (plain_shape zs count k heads)
      (cond (is_at zs count (3 + heads) (pos 1)) (weighed_within k heads) (Err WrongKind))

  -- "a bad head count, or one with too few numbers after it, gives 6 before the body kind is looked for"
  abbrev pub head_within : Kind → Result Shape ProgramFault
  head_within k =
      let heads = variable (get_or zs 2 (pos 0)) in
      cond (is_count_at zs count 2 && leb (3 + heads) count) (body_within k heads) (Err WrongCount)

  -- Questions 5, 6, 54, 55 and 7, "reading left to right": "is the statement kind present and 1, the head kind present and 0 or 1".
  -- The shape of a rule line is its head kind, its head count, its body kind and its body count.
  unfoldable pub shape_within : Result Shape ProgramFault
  shape_within =
      cond (is_at zs count 0 (pos 1))
      (cond (is_at zs count 1 (pos 0)) (head_within Normal) (cond (is_at zs count 1 (pos 1)) (head_within Choice) (Err WrongKind))) (Err WrongKind)

-- question 8, of the heads: positive and distinct
abbrev pub heads_good : List ℤ → Bool
heads_good hs = all (λ h. lt_z (pos 0) h) hs && distinct hs

-- question 8, of the body's literals: nonzero with no atom twice
abbrev pub body_good : List ℤ → Bool
body_good ls = not (has (pos 0) ls) && distinct ls

-- the weight that a line gives the literal
abbrev pub weight_in : List Weighted → ℤ → ℕ
weight_in [] x = 0
weight_in (p ∷ ps) x = cond (same p.literal x) p.weight (weight_in ps x)

abbrev pub with_weight : List Weighted → ℤ → Weighted
with_weight ps x = record { literal = x; weight = weight_in ps x }

-- the literals "ascending by atom", each with its weight in the line
unfoldable pub arranged : List Weighted → List Weighted
arranged ps = map (with_weight ps) (ascending (literals ps))

-- a rule, or what is wrong with it by the first question that it fails
pub data RuleRead : Type 0 where
  fails : ProgramFault → RuleRead
  reads : InputRule → RuleRead

-- question 8 of the heads and of the literals of a body that then stands as given
abbrev pub rule_with : Kind → (hs ls : List ℤ) → Body → RuleRead
rule_with k hs ls body = cond (heads_good hs && body_good ls) (reads (record { kind = k; heads = ascending hs; body = body })) (fails WrongLiterals)

-- question 8 of a line whose shape is right
abbrev pub rule_of : List ℤ → (Result Shape ProgramFault) → RuleRead
rule_of zs (Err k) = fails k
rule_of zs (Ok (Shaped k heads body)) =
    let ls = take body (drop (5 + heads) zs) in
    rule_with k (take heads (drop 3 zs)) ls (plain (ascending ls))
rule_of zs (Ok (Weighed k heads body)) =
    let ps = paired (take (2 * body) (drop (6 + heads) zs)) in
    rule_with k (take heads (drop 3 zs)) (literals ps) (weights (variable (get_or zs (4 + heads) (pos 0))) (arranged ps))

-- Line after line

-- the program, or a refusal with what is wrong and the line
pub data Reading : Type 0 where
  refused : (fault : ProgramFault) (line : ℕ) → Reading
  program : (rules : List InputRule) → Reading

-- What a line makes of the text: nothing more is read, or reading goes on with a rule more.
pub data Turn : Type 0 where
  refuses : (fault : ProgramFault) → Turn
  ends : Turn
  adds : (rule : InputRule) (bytes : ℕ) → Turn

-- the line is `0` alone
abbrev pub is_last : List ℤ → Bool
is_last zs = eqb (length zs) 1 && same (get_or zs 0 (pos 0)) (pos 0)

-- "Are there fewer than 1,024 rules before it? 9. Does the table hold it? 10.", with so many rules before it and words free
abbrev pub room : (rules free : ℕ) → RuleRead → (bytes : ℕ) → Turn
room rules free (fails k) n = refuses k
room rules free (reads r) n =
    cond (ltb rules most_rules) (cond (leb (length (rule_words r)) free) (adds r n) (refuses TableFull)) (refuses TooManyRules)

-- Questions 3 to 11, 54 and 55 among them, of the line that a text begins with, of which so many bytes are left. "is there one, ended, of well-formed
-- numbers? 3. Are all from -4,095 to 4,095?" (8,191 since Change 6) "4. For the line `0` alone: does the text end there? 11."
abbrev pub turn_within : (most : ℕ) → (rules free left : ℕ) → Line → Turn
turn_within most rules free left broken = refuses Malformed
turn_within most rules free left (numbers zs n) =
    cond (any_outside zs) (refuses TooLarge)
    (cond (is_last zs) (cond (eqb n left) ends (refuses TextAfterEnd)) (room rules free (rule_of zs (shape_within most zs (length zs))) n))

-- The lines from here on, into a table of `size` words: the bytes left, the line's number, the rules so far. Each line takes a
-- byte at least, so one turn more than there are bytes is enough.
unfoldable pub lines_within : (most size turns : ℕ) → List ℕ → (line : ℕ) → List InputRule → Reading
lines_within most size zero s line rs = refused Malformed line
lines_within most size (suc turns) s line rs =
    elim (turn_within most (length rs) (size - length (program_words rs)) (length s) (line_of s)) [
      | refuses k ↦ refused k line
      | ends ↦ program rs
      | adds r n ↦ lines_within most size turns (drop n s) (line + 1) (rs ++ (r ∷ []))
    ]

-- `asp 1 0 0` and its newline
abbrev pub header : List ℕ
header = 97 ∷ 115 ∷ 112 ∷ 32 ∷ 49 ∷ 32 ∷ 48 ∷ 32 ∷ 48 ∷ 10 ∷ []

-- "Is line 1 as said? 2." and the questions after it, with a table of `size` words: all but question 1
unfoldable pub read_lines_within : (most : ℕ) → ℕ → List ℕ → Reading
read_lines_within most size text =
    cond (starts_with header text) (lines_within most size (suc (length text)) (drop (length header) text) 2 []) (refused NoHeader 1)

-- "Has the text at most 65,535 bytes? No: 1." The whole text is at fault, so the line is 0.
unfoldable pub read_text_within : (most : ℕ) → ℕ → List ℕ → Reading
read_text_within most size text = cond (leb (length text) longest) (read_lines_within most size text) (refused TooLong 0)

-- The reader of the documents: "at most 12 literals"

unfoldable pub shape_of : List ℤ → ℕ → Result Shape ProgramFault
unfolding shape_within
shape_of zs count = shape_within most_weighted zs count

unfoldable pub lines_from : (size turns : ℕ) → List ℕ → (line : ℕ) → List InputRule → Reading
unfolding lines_within
lines_from size turns s line rs = lines_within most_weighted size turns s line rs

unfoldable pub read_lines : ℕ → List ℕ → Reading
unfolding read_lines_within lines_from
read_lines size text = read_lines_within most_weighted size text

unfoldable pub read_text : ℕ → List ℕ → Reading
unfolding read_text_within read_lines
read_text size text = read_text_within most_weighted size text

-- What the service answers and leaves

-- this paper's values of each case: N and the rule count, or what is wrong and the line. `number_of` is the question's number.
abbrev pub program_answer : Reading → Result ProgramCounts ProgramRefusal
program_answer (refused k line) = Err (record { fault = k; line = line })
program_answer (program rs) = Ok (record { atoms = atoms rs; rules = length rs })

-- "Every refusal zeroes the whole of the table"
abbrev pub table_of : ℕ → Reading → List ℤ
table_of size (refused k line) = replicate size (pos 0)
table_of size (program rs) = table_words size rs

-- the answer and every word of the table
pub record ReadingLeft (x : Reading) (before after : List ℤ) (r : Result ProgramCounts ProgramRefusal) : Type 0 where
  pub answer : r ≡ program_answer x
  pub table : after ≡ table_of (length before) x

abbrev pub ProgramReadWithin : (most : ℕ) → (text : List ℕ) (before after : List ℤ) (r : Result ProgramCounts ProgramRefusal) → Type 0
ProgramReadWithin most text before after r = ReadingLeft (read_text_within most (length before) text) before after r

-- the public contract
abbrev pub ProgramRead : (text : List ℕ) (before after : List ℤ) (r : Result ProgramCounts ProgramRefusal) → Type 0
ProgramRead text before after r = ReadingLeft (read_text (length before) text) before after r
