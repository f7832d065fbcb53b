-- Example 1 of document 01 as a packet of version 1, of 57 bytes, and of version 2, of 61; moves; refusals. proofs/Examples.antt proves
-- all by computation.
-- Assumes nothing.
use Rattle.std.specs.Prelude.{◌≡◌, true, List, [], ◌∷◌, ◌++◌, ℕ, ℤ, pos, negsuc, length, take, drop, replicate}
use Rattle.std.proofs.Math.Option.{none}
use Rattle.text.specs.declared.Letter.TheVariants.{Addition, Body, Completion, Support}
use Rattle.text.specs.Strings.{lines}
use Rattle.aspif.specs.declared.Kind.TheVariants.{Normal}
use Rattle.aspif.specs.Rules.{plain, InputRule}
use Rattle.aspif.specs.Tables.{sound_table}
use Rattle.drupe.specs.Texts.{Step}
use Rattle.packets.specs.Packets.{mark, packet_of, refused, pair, version_of, reading, unwritten, written, writing, packet_left, up, down}
use Rattle.packets.specs.declared.Version.TheVariants.{One, Two}

-- "1 0 1 1 0 1 -1"
abbrev pub rules1 : List InputRule
rules1 = record { kind = Normal; heads = pos 1 ∷ []; body = plain (negsuc 0 ∷ []) } ∷ []

-- the words of its table
abbrev pub table_words1 : List ℤ
table_words1 = pos 0 ∷ pos 1 ∷ pos 0 ∷ pos 1 ∷ pos 1 ∷ negsuc 0 ∷ []

abbrev pub text1 : List ℕ
text1 = lines ("b 2 -1 0" ∷ "c 2 1 0" ∷ "s 1 2 0" ∷ "a 1 0" ∷ "a 0" ∷ [])

abbrev pub steps1 : List Step
steps1 =
    record { letter = Body; numbers = pos 2 ∷ negsuc 0 ∷ [] }
    ∷ record { letter = Completion; numbers = pos 2 ∷ pos 1 ∷ [] }
    ∷ record { letter = Support; numbers = pos 1 ∷ pos 2 ∷ [] }
    ∷ record { letter = Addition; numbers = pos 1 ∷ [] }
    ∷ record { letter = Addition; numbers = [] }
    ∷ []

-- the bytes of the steps, alike in both versions
abbrev pub step_bytes1 : List ℕ
step_bytes1 = 98 ∷ 2 ∷ 2 ∷ 0 ∷ 255 ∷ 255 ∷ 99 ∷ 2 ∷ 2 ∷ 0 ∷ 1 ∷ 0 ∷ 115 ∷ 2 ∷ 1 ∷ 0 ∷ 2 ∷ 0 ∷ 97 ∷ 1 ∷ 1 ∷ 0 ∷ 97 ∷ 0 ∷ []

-- the mark with version 1, 5 words and 5 steps; the words, which have no body kind; the steps
abbrev pub packet1 : List ℕ
packet1 =
    (82 ∷ 86 ∷ 80 ∷ 1 ∷ 0 ∷ 5 ∷ 0 ∷ 0 ∷ 0 ∷ 5 ∷ 0 ∷ 0 ∷ 0 ∷ [])
    ++ ((0 ∷ 0 ∷ 0 ∷ 0 ∷ 1 ∷ 0 ∷ 0 ∷ 0 ∷ 1 ∷ 0 ∷ 0 ∷ 0 ∷ 1 ∷ 0 ∷ 0 ∷ 0 ∷ 255 ∷ 255 ∷ 255 ∷ 255 ∷ []) ++ step_bytes1)

-- the mark with version 2, 6 words and 5 steps; the words, with a body kind after the head count; the steps
abbrev pub packet2 : List ℕ
packet2 =
    (82 ∷ 86 ∷ 80 ∷ 2 ∷ 0 ∷ 6 ∷ 0 ∷ 0 ∷ 0 ∷ 5 ∷ 0 ∷ 0 ∷ 0 ∷ [])
    ++ ((0 ∷ 0 ∷ 0 ∷ 0 ∷ 1 ∷ 0 ∷ 0 ∷ 0 ∷ 0 ∷ 0 ∷ 0 ∷ 0 ∷ 1 ∷ 0 ∷ 0 ∷ 0 ∷ 1 ∷ 0 ∷ 0 ∷ 0 ∷ 255 ∷ 255 ∷ 255 ∷ 255 ∷ []) ++ step_bytes1)

pub record Example1 : Type 0 where
  pub bytes : packet_of One rules1 steps1 ≡ packet1
  pub size : length packet1 ≡ 57
  -- it reads back with 6 words of table and 35 bytes of text
  pub read : reading One packet1 6 35 ≡ pair rules1 steps1
  pub table-short : reading One packet1 5 35 ≡ refused 52
  pub text-short : reading One packet1 6 34 ≡ refused 52
  pub wrote : writing One table_words1 1 text1 57 ≡ written packet1
  pub short : writing One table_words1 1 text1 56 ≡ unwritten 52
  pub count-0 : writing One table_words1 0 text1 57 ≡ unwritten 53
  -- the rule alone has the bytes that it had before the table's body kind
  pub rule-size : length (packet_of One rules1 []) ≡ 33
  pub rule-read : reading One (packet_of One rules1 []) 6 0 ≡ pair rules1 []
  pub rule-short : reading One (packet_of One rules1 []) 5 0 ≡ refused 52

pub record Example1InTwo : Type 0 where
  pub bytes : packet_of Two rules1 steps1 ≡ packet2
  pub size : length packet2 ≡ 61
  pub read : reading Two packet2 6 35 ≡ pair rules1 steps1
  pub table-short : reading Two packet2 5 35 ≡ refused 52
  pub wrote : writing Two table_words1 1 text1 61 ≡ written packet2
  pub short : writing Two table_words1 1 text1 60 ≡ unwritten 52

-- up and down again, with the least output and with a byte less
pub record Example1Moved : Type 0 where
  pub goes-up : up packet1 61 ≡ written packet2
  pub up-short : up packet1 60 ≡ unwritten 52
  pub goes_down : down packet2 57 ≡ written packet1
  pub with-zeros : packet_left 59 (down packet2 59) ≡ packet1 ++ (0 ∷ 0 ∷ [])
  pub down-short : down packet2 56 ≡ unwritten 52
  -- "Up takes only version 1, down only version 2."
  pub two_up : up packet2 61 ≡ unwritten 51
  pub one_down : down packet1 57 ≡ unwritten 51

-- the table's words of "1 0 0 1 0 0", a constraint with a weight body without a literal
abbrev pub weight_words : List ℤ
weight_words = pos 0 ∷ pos 0 ∷ pos 1 ∷ pos 0 ∷ pos 0 ∷ []

-- and its packet of version 2
abbrev pub weight_packet : List ℕ
weight_packet =
    (82 ∷ 86 ∷ 80 ∷ 2 ∷ 0 ∷ 5 ∷ 0 ∷ 0 ∷ 0 ∷ 0 ∷ 0 ∷ 0 ∷ 0 ∷ [])
    ++ (0 ∷ 0 ∷ 0 ∷ 0 ∷ 0 ∷ 0 ∷ 0 ∷ 0 ∷ 1 ∷ 0 ∷ 0 ∷ 0 ∷ 0 ∷ 0 ∷ 0 ∷ 0 ∷ 0 ∷ 0 ∷ 0 ∷ 0 ∷ [])

-- question 41 lets it pass; version 1 refuses it, whatever the output's length
pub record WeightRule : Type 0 where
  pub passes : sound_table weight_words 1 ≡ true
  pub refused-53 : writing One weight_words 1 [] 100 ≡ unwritten 53
  pub no_output : writing One weight_words 1 [] 0 ≡ unwritten 53
  pub wrote : writing Two weight_words 1 [] 33 ≡ written weight_packet
  pub short : writing Two weight_words 1 [] 32 ≡ unwritten 52
  pub down-61 : down weight_packet 0 ≡ unwritten 61
  -- 52 for the lengths comes before 61, and so does 53: a byte more, and a step's byte that is no letter
  pub tail : down (weight_packet ++ (0 ∷ [])) 33 ≡ unwritten 52
  pub letter : down (take 9 weight_packet ++ (1 ∷ 0 ∷ 0 ∷ 0 ∷ (drop 13 weight_packet ++ (120 ∷ 0 ∷ [])))) 33 ≡ unwritten 53

-- a fact, and the line that adds one negative literal, of the variable one above n
abbrev pub fact : ℕ → List InputRule
fact n = record { kind = Normal; heads = pos n ∷ []; body = plain [] } ∷ []

abbrev pub adding : ℕ → List Step
adding n = record { letter = Addition; numbers = negsuc n ∷ [] } ∷ []

-- at 4,095 and at 8,191
pub record Limits : Type 0 where
  pub rule-61 : down (packet_of Two (fact 4096) []) 0 ≡ unwritten 61
  pub step-61 : down (packet_of Two (fact 4095) (adding 4095)) 0 ≡ unwritten 61
  pub goes_down : down (packet_of Two (fact 4095) (adding 4094)) 33 ≡ written (packet_of One (fact 4095) (adding 4094))
  pub down-short : down (packet_of Two (fact 4095) (adding 4094)) 32 ≡ unwritten 52
  pub one : writing One (pos 0 ∷ pos 1 ∷ pos 0 ∷ pos 0 ∷ pos 4096 ∷ []) 1 [] 100 ≡ unwritten 53
  pub two : writing Two (pos 0 ∷ pos 1 ∷ pos 0 ∷ pos 0 ∷ pos 8191 ∷ []) 1 (lines ("a -8191 0" ∷ [])) 37 ≡ written (packet_of Two (fact 8191) (adding 8190))
  pub atom : writing Two (pos 0 ∷ pos 1 ∷ pos 0 ∷ pos 0 ∷ pos 8192 ∷ []) 1 [] 100 ≡ unwritten 53
  pub step : writing Two [] 0 (lines ("a 8192 0" ∷ [])) 100 ≡ unwritten 53

-- the empty pair, and packets that are cut, moved down; versions that are none
pub record Small : Type 0 where
  pub empty : down (mark Two ++ replicate 8 0) 13 ≡ written (mark One ++ replicate 8 0)
  pub lengths : down (mark Two ++ replicate 7 0) 13 ≡ unwritten 52
  pub cut : down (82 ∷ 86 ∷ 80 ∷ 2 ∷ []) 13 ≡ unwritten 51
  pub version-0 : version_of 0 ≡ none
  pub version-3 : version_of 3 ≡ none

-- the reader's refusals, after the mark and the version: a zero tail; a length that lacks; a letter that is none; two words that are
-- no rule
pub record Refusals : Type 0 where
  pub nothing : reading One [] 9 9 ≡ refused 51
  pub version : reading One (82 ∷ 86 ∷ 80 ∷ 2 ∷ 0 ∷ replicate 8 0) 9 9 ≡ refused 51
  pub lengths : reading One (mark One ++ replicate 7 0) 9 9 ≡ refused 52
  pub tail : reading One (mark One ++ replicate 9 0) 9 9 ≡ refused 52
  pub empty : reading One (mark One ++ replicate 8 0) 0 0 ≡ pair [] []
  pub many : reading One (mark One ++ (255 ∷ 255 ∷ 255 ∷ 255 ∷ 0 ∷ 0 ∷ 0 ∷ 0 ∷ [])) 9 9 ≡ refused 52
  pub numbers : reading One (mark One ++ (0 ∷ 0 ∷ 0 ∷ 0 ∷ 1 ∷ 0 ∷ 0 ∷ 0 ∷ 97 ∷ 1 ∷ 5 ∷ [])) 9 9 ≡ refused 52
  pub letter : reading One (mark One ++ (0 ∷ 0 ∷ 0 ∷ 0 ∷ 1 ∷ 0 ∷ 0 ∷ 0 ∷ 120 ∷ 0 ∷ [])) 9 9 ≡ refused 53
  pub rule : reading One (mark One ++ (2 ∷ replicate 15 0)) 0 0 ≡ refused 53
