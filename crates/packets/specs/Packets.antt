-- Case packets: Change 1, in both versions. Version 1 has "Packets keep the old table and refuse a weight rule with 53" of Change 3 and
-- "packets of version 1 keep the old ones", the old figures, of Change 6; of version 2 Change 11 says that it "carries the table of Change
-- 3 and is otherwise the same". The pair is the rules P of a table and the steps ts of a proof text, as far as a packet of the version can
-- hold them (`fits`); `packet_of v P ts` is its one byte form, and `writing`, `reading`, `up` and `down` are what the services come to,
-- question by question.
-- Assumes nothing.
use Rattle.std.specs.Prelude.{◌≡◌, Bool, true, false, cond, not, ◌&&◌, List, [], ◌∷◌, ◌++◌, map, ℕ, zero, suc, ◌+◌, ◌-◌, ◌*◌, max, leb, eqb, ℤ, pos, length, take, drop, replicate}
use Rattle.std.proofs.Math.Option.{Option, none, some}
use Rattle.words.specs.Limits.{longest, largest, most_rules}
use Rattle.words.specs.Lists.{concat, all}
use Rattle.words.specs.Literals.{has, top}
use Rattle.text.specs.Bytes.{byte_of, class_of}
use Rattle.text.specs.declared.Letter.{Letter}
use Rattle.text.specs.declared.Class.{Class}
use Rattle.aspif.specs.Rules.{InputRule, literals_of, is_plain, greatest, atoms, kind_word, rule_words, program_words, table_words}
use Rattle.text.specs.Strings.{starts_with}
use Rattle.aspif.specs.Tables.{rule_at, size_at, sound_at, rules_of}
use Rattle.drupe.specs.Lines.{all_passed, line_refusal}
use Rattle.drupe.specs.Texts.{Step, StepsRead, steps, text_of, steps_of}
use Rattle.drupe.specs.Texts as Texts
use Rattle.packets.specs.Bytes.{little, value, bytes_of, numbers_from}
use Rattle.packets.specs.declared.Version.{Version}
use Rattle.packets.specs.declared.Version.TheVariants.{One, Two}
use Rattle.packets.specs.declared.PacketWriting.{PacketWriting}
use Rattle.packets.specs.declared.PacketWriting.TheVariants as Writing
use Rattle.packets.specs.declared.PacketReading.{PacketReading}
use Rattle.packets.specs.declared.PacketReading.TheVariants as Reading

-- What differs by the version

-- "16-bit version 1", or 2
abbrev pub version_bytes : Version → List ℕ
version_bytes One = 1 ∷ 0 ∷ []
version_bytes Two = 2 ∷ 0 ∷ []

-- the largest variable: "packets of version 1 keep the old ones", and version 2 has the table's and the steps' 8,191
abbrev pub limit : Version → ℕ
limit One = 4095
limit Two = largest

-- A rule's words in a packet. Version 1: "head kind, head count, body count, heads ascending, body literals ascending by atom", written
-- out here since "Packets keep the old table". Version 2 "carries the table of Change 3".
abbrev pub packet_rule : Version → InputRule → List ℤ
packet_rule One r =
    kind_word r.kind ∷ pos (length r.heads) ∷ pos (length (literals_of r.body)) ∷ (r.heads ++ literals_of r.body)
packet_rule Two r = rule_words r

-- a rule has such words: in version 1 "a weight rule" has none
abbrev pub has_words : Version → InputRule → Bool
has_words One r = is_plain r
has_words Two r = true

-- The bytes of a pair

-- "the three bytes `RVP`", and the version
abbrev pub mark : Version → List ℕ
mark v = 82 ∷ 86 ∷ 80 ∷ version_bytes v

-- the "table words in use"
abbrev pub packet_words : Version → List InputRule → List ℤ
packet_words v P = concat (map (packet_rule v) P)

-- "each step as a letter byte, a count byte and its 16-bit signed numbers without the closing 0"
abbrev pub step_bytes : Step → List ℕ
step_bytes t = byte_of t.letter ∷ length t.numbers ∷ bytes_of 2 t.numbers

abbrev pub steps_bytes : List Step → List ℕ
steps_bytes ts = concat (map step_bytes ts)

-- "then the number of table words in use and the number of steps, 32 bits each"
abbrev pub packet_header : Version → List InputRule → List Step → List ℕ
packet_header v P ts = mark v ++ (little 4 (length (packet_words v P)) ++ little 4 (length ts))

-- ".. those words, and each step"
unfoldable pub packet_of : Version → List InputRule → List Step → List ℕ
packet_of v P ts = packet_header v P ts ++ (bytes_of 4 (packet_words v P) ++ steps_bytes ts)

-- What a packet can hold

-- the largest variable that steps name, and that a pair names in a rule or in a step
abbrev pub steps_top : List Step → ℕ
steps_top ts = greatest (λ (t : Step). top t.numbers) ts

abbrev pub pair_top : List InputRule → List Step → ℕ
pair_top P ts = max (atoms P) (steps_top ts)

-- every rule has words, and no variable is above the largest
abbrev pub fits : Version → List InputRule → List Step → Bool
fits v P ts = all (has_words v) P && leb (pair_top P ts) (limit v)

-- What stands in the bytes of a packet

-- "the number of table words in use and the number of steps", as the packet states them
module _ (packet : List ℕ) where
  abbrev pub word_count : ℕ
  word_count = value (take 4 (drop 5 packet))

  abbrev pub step_count : ℕ
  step_count = value (take 4 (drop 9 packet))

  -- the bytes of "those words", and of the steps after them
  abbrev pub word_part : List ℕ
  word_part = take (4 * word_count) (drop 13 packet)

  abbrev pub step_part : List ℕ
  step_part = drop (13 + 4 * word_count) packet

-- so many steps, each of 2 bytes and of 2 more for each of its numbers, make up the bytes
unfoldable pub fills : ℕ → List ℕ → Bool
fills zero [] = true
fills zero (b ∷ bs) = false
fills (suc n) [] = false
fills (suc n) (x ∷ []) = false
fills (suc n) (x ∷ c ∷ bs) = leb (2 * c) (length bs) && fills n (drop (2 * c) bs)

-- 52: "lengths that don't make up the bytes given". Both counts are there, and the words and just the stated steps make up the rest.
unfoldable pub lengths_fit : List ℕ → Bool
lengths_fit packet =
    leb 13 (length packet) && (leb (13 + 4 * word_count packet) (length packet) && fills (step_count packet) (step_part packet))

-- an element before a list, where there is one
abbrev pub prepend : {A : Type 0} → A → Option (List A) → Option (List A)
prepend x none = none
prepend x (some l) = some (x ∷ l)

-- Rules. "a table that 41 .. would refuse": a rule stands at the front of a packet's words, so many words long. Question 41's tests of
-- one rule are asked of the words as the table has them.

-- words of version 1 with the table's "body kind after the head count", which is 0
unfoldable pub with_kind : List ℤ → List ℤ
with_kind ws = take 2 ws ++ (pos 0 ∷ drop 2 ws)

-- a packet's words as the table has them
abbrev pub as_table : Version → List ℤ → List ℤ
as_table One ws = with_kind ws
as_table Two ws = ws

-- how many words fewer than in the table a rule has
abbrev pub fewer : Version → ℕ
fewer One = 1
fewer Two = 0

abbrev pub rule_passes : Version → List ℤ → Bool
rule_passes v ws = sound_at (as_table v ws)

abbrev pub rule_size : Version → List ℤ → ℕ
rule_size v ws = size_at (as_table v ws) - fewer v

abbrev pub rule_in : Version → List ℤ → InputRule
rule_in v ws = rule_at (as_table v ws)

-- the rules, rule after rule off the words until none is left, and so many at most
unfoldable pub rules_from : Version → ℕ → List ℤ → Option (List InputRule)
rules_from v zero [] = some []
rules_from v zero (w ∷ ws) = none
rules_from v (suc n) [] = some []
rules_from v (suc n) (w ∷ ws) =
    cond (rule_passes v (w ∷ ws)) (prepend (rule_in v (w ∷ ws)) (rules_from v n (drop (rule_size v (w ∷ ws)) (w ∷ ws)))) none

-- "At most 1,024 rules."
unfoldable pub rules_in : Version → List ℤ → Option (List InputRule)
rules_in v ws = rules_from v most_rules ws

-- Steps. "a proof text that 21 to 25 would refuse"

-- the letter whose byte it is
abbrev pub letter_in : Class → Option Letter
letter_in (Class.Step x) = some x
letter_in Class.Newline = none
letter_in Class.Space = none
letter_in Class.Minus = none
letter_in (Class.Digit d) = none
letter_in Class.Other = none

-- questions 22 to 25 of a step's line
unfoldable pub step_passes : Step → Bool
step_passes t = not (has (pos 0) t.numbers) && all_passed (line_refusal t.letter t.numbers)

-- a letter, its numbers and the steps after them
abbrev pub step_with : Option Letter → List ℤ → Option (List Step) → Option (List Step)
step_with none zs o = none
step_with (some x) zs o =
    cond (step_passes (record { letter = x; numbers = zs })) (prepend (record { letter = x; numbers = zs }) o) none

-- so many steps
unfoldable pub steps_from : ℕ → List ℕ → Option (List Step)
steps_from zero bs = some []
steps_from (suc n) [] = none
steps_from (suc n) (x ∷ []) = none
steps_from (suc n) (x ∷ c ∷ bs) = step_with (letter_in (class_of x)) (numbers_from 2 c bs) (steps_from n (drop (2 * c) bs))

-- "At most 65,535 bytes? 21.", of the text that the steps stand for
abbrev pub if_short : Option (List Step) → Option (List Step)
if_short none = none
if_short (some ts) = cond (leb (length (text_of ts)) longest) (some ts) none

unfoldable pub steps_in : ℕ → List ℕ → Option (List Step)
steps_in n bs = if_short (steps_from n bs)

-- The pair in a packet

-- the pair, or the number of a refusal
pub data PacketRead : Type 0 where
  refused : ℕ → PacketRead
  pair : List InputRule → List Step → PacketRead

-- "a table that 41 or a proof text that 21 to 25 would refuse 53"
abbrev pub paired : Option (List InputRule) → Option (List Step) → PacketRead
paired none o = refused 53
paired (some P) none = refused 53
paired (some P) (some ts) = pair P ts

-- a pair that the version can hold; a refusal with the number given of one that it cannot
abbrev pub if_fits : Version → ℕ → PacketRead → PacketRead
if_fits v number (refused k) = refused k
if_fits v number (pair P ts) = cond (fits v P ts) (pair P ts) (refused number)

-- of the bytes of the words and of the steps, with so many of either: "Packets .. refuse a weight rule with 53", and so a variable above
-- the version's largest
unfoldable pub parts_read : Version → ℕ → List ℕ → ℕ → List ℕ → PacketRead
parts_read v words word_bytes count bytes = if_fits v 53 (paired (rules_in v (numbers_from 4 words word_bytes)) (steps_in count bytes))

-- "A wrong or missing mark or version is 51, lengths that don't make up the bytes given 52, .. tested in this order"
unfoldable pub pair_in : Version → List ℕ → PacketRead
pair_in v packet =
    cond (starts_with (mark v) packet)
    (cond (lengths_fit packet) (parts_read v (word_count packet) (word_part packet) (step_count packet) (step_part packet)) (refused 52))
    (refused 51)

-- "Reader and writer are told the version": the number that is told
abbrev pub version_of : ℕ → Option Version
version_of n = cond (eqb n 1) (some One) (cond (eqb n 2) (some Two) none)

-- What the reader comes to

-- "and last an output too short, again 52": the table outside the packet has its own words
abbrev pub if_held : ℕ → ℕ → PacketRead → PacketRead
if_held table_size text_size (refused k) = refused k
if_held table_size text_size (pair P ts) =
    cond (leb (length (program_words P)) table_size && leb (length (text_of ts)) text_size) (pair P ts) (refused 52)

unfoldable pub reading : Version → List ℕ → ℕ → ℕ → PacketRead
reading v packet table_size text_size = if_held table_size text_size (pair_in v packet)

-- 51 for a version that is none
abbrev pub reading_of : Option Version → List ℕ → ℕ → ℕ → PacketRead
reading_of none packet table_size text_size = refused 51
reading_of (some v) packet table_size text_size = reading v packet table_size text_size

-- the answer: the rule count, which "Outside the packet" stands with the table, and the bytes of the proof text
abbrev pub reading_answer : PacketRead → PacketReading
reading_answer (refused k) = Reading.Refused k
reading_answer (pair P ts) = Reading.Read (length P) (length (text_of ts))

-- "Outputs are 0 past what is written. A refusal zeroes whatever was lent to be filled."
abbrev pub filled : {A : Type 0} → A → ℕ → List A → List A
filled z size l = l ++ replicate (size - length l) z

-- every word of the lent table
abbrev pub table_left : ℕ → PacketRead → List ℤ
table_left size (refused k) = replicate size (pos 0)
table_left size (pair P ts) = table_words size P

-- every byte of the lent proof text
abbrev pub text_left : ℕ → PacketRead → List ℕ
text_left size (refused k) = replicate size 0
text_left size (pair P ts) = filled 0 size (text_of ts)

-- what the reader leaves of a packet. A primed name is what a lent slice holds afterwards.
pub record ReadLeaves (read : PacketRead) (table table' : List ℤ) (proof proof' : List ℕ) (r : PacketReading) : Type 0 where
  pub answer : r ≡ reading_answer read
  pub words : table' ≡ table_left (length table) read
  pub text : proof' ≡ text_left (length proof) read

-- the contract of `read_packet`
abbrev pub ReadPacket : ℕ → List ℕ → List ℤ → List ℤ → List ℕ → List ℕ → PacketReading → Type 0
ReadPacket version packet table table' proof proof' r =
    ReadLeaves (reading_of (version_of version) packet (length table) (length proof)) table table' proof proof' r

-- What the writer comes to

-- the packet's bytes, or the number of a refusal
pub data PacketWritten : Type 0 where
  unwritten : ℕ → PacketWritten
  written : List ℕ → PacketWritten

abbrev pub steps_taken : StepsRead → Option (List Step)
steps_taken (steps ts) = some ts
steps_taken (Texts.refused before k n) = none

-- the bytes, where the output holds them
abbrev pub held : Version → ℕ → PacketRead → PacketWritten
held v size (refused k) = unwritten k
held v size (pair P ts) = cond (leb (length (packet_of v P ts)) size) (written (packet_of v P ts)) (unwritten 52)

-- The writer has no mark to test, so 53 comes first, and then 52.
unfoldable pub writing : Version → List ℤ → ℕ → List ℕ → ℕ → PacketWritten
writing v table rules proof size = held v size (if_fits v 53 (paired (rules_of table rules) (steps_taken (steps_of proof))))

-- 51 for a version that is none
abbrev pub writing_of : Option Version → List ℤ → ℕ → List ℕ → ℕ → PacketWritten
writing_of none table rules proof size = unwritten 51
writing_of (some v) table rules proof size = writing v table rules proof size

abbrev pub writing_answer : PacketWritten → PacketWriting
writing_answer (unwritten k) = Writing.Refused k
writing_answer (written bs) = Writing.Written (length bs)

-- every byte of the lent output
abbrev pub packet_left : ℕ → PacketWritten → List ℕ
packet_left size (unwritten k) = replicate size 0
packet_left size (written bs) = filled 0 size bs

pub record WritingLeaves (w : PacketWritten) (packet packet' : List ℕ) (r : PacketWriting) : Type 0 where
  pub answer : r ≡ writing_answer w
  pub bytes : packet' ≡ packet_left (length packet) w

-- the contract of `write_packet`
abbrev pub WrittenPacket : ℕ → List ℤ → ℕ → List ℕ → List ℕ → List ℕ → PacketWriting → Type 0
WrittenPacket version table rules proof packet packet' r =
    WritingLeaves (writing_of (version_of version) table rules proof (length packet)) packet packet' r

-- What a move comes to

-- "Every version 1 packet that its reader takes moves to version 2 where the output holds it", and "Up takes only version 1"
unfoldable pub up : List ℕ → ℕ → PacketWritten
up packet size = held Two size (pair_in One packet)

-- "A version 2 packet with a weight body or a variable above 4,095 cannot go down and gets 61, after the tests of Change 1 but before the
-- output's length is asked", and "down only version 2"
unfoldable pub down : List ℕ → ℕ → PacketWritten
down packet size = held One size (if_fits One 61 (pair_in Two packet))

-- the contracts of `packet_up` and `packet_down`: "its output left zero" where it is refused
abbrev pub MovedUp : List ℕ → List ℕ → List ℕ → PacketWriting → Type 0
MovedUp packet output output' r = WritingLeaves (up packet (length output)) output output' r

abbrev pub MovedDown : List ℕ → List ℕ → List ℕ → PacketWriting → Type 0
MovedDown packet output output' r = WritingLeaves (down packet (length output)) output output' r
