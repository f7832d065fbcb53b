-- What is claimed of packets, of both versions together: a pair is read back, a packet has one form, what is read passes; and of moves
-- between the versions: there and back restores the bytes. proofs/ has the proofs.
-- Assumes nothing.
use Rattle.std.specs.Prelude.{◌≡◌, true, false, ◌⊎◌, List, ℕ, ◌<◌, ◌≤◌, ℤ, length}
use Rattle.std.proofs.Math.Option.{some}
use Rattle.words.specs.Lists.{◌∈◌}
use Rattle.aspif.specs.Rules.{InputRule, is_plain, program_words, table_words}
use Rattle.aspif.specs.Tables.{rules_of}
use Rattle.drupe.specs.Texts.{Step, steps, text_of, steps_of}
use Rattle.packets.specs.Packets.{packet_of, limit, pair_top, fits, pair, pair_in, reading, table_left, unwritten, written, writing, up, down}
use Rattle.packets.specs.declared.Version.{Version}
use Rattle.packets.specs.declared.Version.TheVariants.{One, Two}

-- every one is a byte, as in every slice of bytes that is lent
abbrev pub Bytes : List ℕ → Type 0
Bytes bs = (b : ℕ) → b ∈ bs → b < 256

-- bytes that the reader takes, wherever the outputs are long enough, as the pair of a table with its rule count and a proof text
pub record PairOf (v : Version) (table : List ℤ) (rules : ℕ) (proof packet : List ℕ) : Type 0 where
  pub P : List InputRule
  pub ts : List Step
  pub reads : (table_size text_size : ℕ) → length (program_words P) ≤ table_size → length proof ≤ text_size
      → reading v packet table_size text_size ≡ pair P ts
  pub count : length P ≡ rules
  pub words : table ≡ table_words (length table) P
  pub text : proof ≡ text_of ts

-- "Reading it back gives that pair": what the writer takes is read back from its bytes
abbrev pub ReadsBack : Type 0
ReadsBack =
    (v : Version) (table : List ℤ) (rules : ℕ) (proof : List ℕ) (size : ℕ) (packet : List ℕ)
    → writing v table rules proof size ≡ written packet → PairOf v table rules proof packet

-- "A packet has one byte form for each such pair": whatever the reader takes is the form of the pair that it gives
abbrev pub OneForm : Type 0
OneForm =
    (v : Version) (packet : List ℕ) (table_size text_size : ℕ) (P : List InputRule) (ts : List Step)
    → Bytes packet → reading v packet table_size text_size ≡ pair P ts → packet ≡ packet_of v P ts

-- the pair that the reader gives, written again, is the same packet, wherever the output is long enough
abbrev pub WrittenAgain : Type 0
WrittenAgain =
    (v : Version) (packet : List ℕ) (table_size text_size size : ℕ) (P : List InputRule) (ts : List Step)
    → Bytes packet → reading v packet table_size text_size ≡ pair P ts → length packet ≤ size
    → writing v (table_left table_size (pair P ts)) (length P) (text_of ts) size ≡ written packet

-- what the reader gives passes question 41 with that rule count, and questions 21 to 25, and is a pair that the version can hold
abbrev pub ReadSound : Type 0
ReadSound =
    (v : Version) (packet : List ℕ) (table_size text_size : ℕ) (P : List InputRule) (ts : List Step)
    → reading v packet table_size text_size ≡ pair P ts
    → (rules_of (table_left table_size (pair P ts)) (length P) ≡ some P) × (steps_of (text_of ts) ≡ steps ts) × (fits v P ts ≡ true)

-- a pair that version 1 can hold is one that version 2 can
abbrev pub OneTwo : Type 0
OneTwo = (P : List InputRule) (ts : List Step) → fits One P ts ≡ true → fits Two P ts ≡ true

-- "Every version 1 packet that its reader takes moves to version 2 where the output holds it, and moving it back restores its bytes."
abbrev pub UpDown : Type 0
UpDown =
    (packet : List ℕ) (table_size text_size : ℕ) (P : List InputRule) (ts : List Step)
    → Bytes packet → reading One packet table_size text_size ≡ pair P ts
    → (moved : List ℕ)
    × (((size : ℕ) → length moved ≤ size → up packet size ≡ written moved)
    × ((size : ℕ) → length packet ≤ size → down moved size ≡ written packet))

-- a packet that goes down comes up again to the same bytes
abbrev pub DownUp : Type 0
DownUp =
    (packet moved : List ℕ) (room size : ℕ)
    → Bytes packet → down packet room ≡ written moved → length packet ≤ size → up moved size ≡ written packet

-- "a weight body or a variable above 4,095", in a rule or in a step
abbrev pub TooNew : List InputRule → List Step → Type 0
TooNew P ts = ((r : InputRule) × ((r ∈ P) × (is_plain r ≡ false))) ⊎ (limit One < pair_top P ts)

-- 61 is answered just where the packet is one of version 2 that holds such a pair, whatever the output's length
abbrev pub DownRefused : Type 0
DownRefused =
    (packet : List ℕ) (size : ℕ)
    → (down packet size ≡ unwritten 61 → (P : List InputRule) × ((ts : List Step) × ((pair_in Two packet ≡ pair P ts) × TooNew P ts)))
    × ((P : List InputRule) (ts : List Step) → pair_in Two packet ≡ pair P ts → TooNew P ts → down packet size ≡ unwritten 61)
