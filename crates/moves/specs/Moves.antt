-- What the private functions of moves come to; no reader of a public contract needs it.
-- Assumes nothing.
use Rattle.std.specs.Prelude.{◌≡◌, Bool, true, List, ◌++◌, ℕ, ◌+◌, ◌≤◌, ℤ, length, Option as Answer, Some, None}
use Rattle.std.proofs.Math.Option.{some}
use Rattle.std.proofs.lemmas.List.Edits.{sets}
use Rattle.words.specs.Lists.{all}
use Rattle.text.specs.Writing.{Put}
use Rattle.aspif.specs.Rules.{InputRule, all_plain}
use Rattle.drupe.specs.Texts.{Step}
use Rattle.packets.specs.Bytes.{little, bytes_of}
use Rattle.packets.specs.Packets.{mark, packet_rule, packet_words, has_words, pair_top, fits, rule_in, rules_in, PacketRead, refused, pair, if_fits, held, WritingLeaves}
use Rattle.packets.specs.Parts.{size_if_sound}
use Rattle.packets.specs.Writes.{rule_room, last_rule_end}
use Rattle.packets.specs.declared.Version.{Version}
use Rattle.packets.specs.declared.PacketWriting.{PacketWriting}
use Rattle.moves.specs.declared.Measured.{Measured}
use Rattle.moves.specs.declared.RuleMoved.{RuleMoved}

-- whether the version can hold a pair, by its largest variable and whether none of its rules has a weight body
abbrev pub Holds : Version → ℕ → Bool → Bool → Type 0
Holds v largest plain r = (P : List InputRule) (ts : List Step) → largest ≡ pair_top P ts → plain ≡ all_plain P → r ≡ fits v P ts

-- whether the version can hold the pair that was read, and how many words its rules then take; or that it is refused, with 53
abbrev pub PairTold : Version → PacketRead → Answer Measured → Type 0
PairTold v (refused k) r = (k ≡ 53) × (r ≡ None)
PairTold v (pair P ts) r = (n : ℕ) × ((r ≡ Some (record { words = n; fits = fits v P ts })) × (fits v P ts ≡ true → n ≡ length (packet_words v P)))

-- From here on v is the version of the packet and w that of the packet made.

-- the rule at the front of a packet's words stands in the output from `at` on
pub record RuleMovedAs (v w : Version) (ws : List ℤ) (before after : List ℕ) (at : ℕ) (r : RuleMoved) : Type 0 where
  pub size : r.size ≡ size_if_sound v ws
  pub within : r.size ≤ length ws
  pub put : Put (bytes_of 4 (packet_rule w (rule_in v ws))) before after at r.end
  pub near : r.end ≤ at + rule_room

-- the words fall into rules that have words in the other version too
abbrev pub Movable : Version → Version → List ℤ → Type 0
Movable v w ws = (P : List InputRule) × ((rules_in v ws ≡ some P) × (all (has_words w) P ≡ true))

-- the words' rules stand in the output after its header
abbrev pub RulesMoved : Version → Version → List ℤ → List ℕ → List ℕ → ℕ → Type 0
RulesMoved v w ws before after r =
    ((P : List InputRule) → rules_in v ws ≡ some P → Put (bytes_of 4 (packet_words w P)) before after 13 r) × (r ≤ last_rule_end)

-- the header, the rules and the steps' bytes stand in the output
abbrev pub PairWritten : Version → Version → List ℤ → List ℕ → ℕ → ℕ → List ℕ → List ℕ → Type 0
PairWritten v w ws bytes steps used before after =
    (P : List InputRule) → rules_in v ws ≡ some P
    → after ≡ sets before 0 ((mark w ++ (little 4 used ++ little 4 steps)) ++ (bytes_of 4 (packet_words w P) ++ bytes))

-- the packet of the pair that was read, where the version can hold it and the output does: 61 comes before 52, and both after what the
-- packet itself is refused with
abbrev pub Moved : Version → PacketRead → List ℕ → List ℕ → PacketWriting → Type 0
Moved w read output output' r = WritingLeaves (held w (length output) (if_fits w 61 read)) output output' r
