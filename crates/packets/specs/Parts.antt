-- What the private functions of the reader come to; no reader of a public contract needs it.
-- Assumes nothing.
use Rattle.std.specs.Prelude.{◌≡◌, true, cond, List, [], ◌∷◌, ℕ, ◌+◌, ◌*◌, ◌<◌, ◌≤◌, leb, ℤ, pos, length, replicate, Option as Answer, Some, None}
use Rattle.std.proofs.Math.Option.{Option, none, some}
use Rattle.std.proofs.lemmas.List.Edits.{sets}
use Rattle.text.specs.Bytes.{class_of}
use Rattle.text.specs.Writing.{Put}
use Rattle.text.specs.declared.Letter.{Letter}
use Rattle.words.specs.Limits.{most_literals}
use Rattle.words.specs.Lists.{all}
use Rattle.words.specs.Literals.{top}
use Rattle.aspif.specs.Rules.{InputRule, is_plain, all_plain, rule_top, atoms, rule_words, program_words}
use Rattle.drupe.specs.Texts.{Step, step_text, text_of}
use Rattle.packets.specs.Bytes.{numbers_from}
use Rattle.packets.specs.Packets.{has_words, steps_top, pair_top, as_table, rule_passes, rule_size, rule_in, letter_in, step_passes, pair, if_fits, if_held, ReadLeaves}
use Rattle.packets.specs.declared.Version.{Version}
use Rattle.packets.specs.declared.PacketReading.{PacketReading}
use Rattle.packets.specs.declared.reader.Part.{Part}
use Rattle.packets.specs.declared.reader.RulesPart.{RulesPart}
use Rattle.packets.specs.declared.reader.RuleRead.{RuleRead}

-- The reader's rules

-- the words of the longest rule of a packet of either version: two kinds, two counts, and both parts
abbrev pub most_words : ℕ
most_words = 4 + most_literals + most_literals

-- how many words the rule at the front takes; 0 where none stands there
unfoldable pub size_if_sound : Version → List ℤ → ℕ
size_if_sound v ws = cond (rule_passes v ws) (rule_size v ws) 0

-- how many words of the packet the rule at their front takes, and how many of the table; its largest atom, and whether it has no weight
-- body; and its words stand in the table from `at` on, as many as fit
pub record RuleTold (v : Version) (ws before after : List ℤ) (at : ℕ) (r : RuleRead) : Type 0 where
  pub size : r.size ≡ size_if_sound v ws
  pub within : r.size ≤ length ws
  pub stands : 0 < r.size → after ≡ sets before at (rule_words (rule_in v ws))
  pub words : 0 < r.size → r.words ≡ length (rule_words (rule_in v ws))
  pub largest : 0 < r.size → r.top ≡ rule_top (rule_in v ws)
  pub plain : 0 < r.size → r.plain ≡ is_plain (rule_in v ws)

-- the same of a row that has the words as the table has them
abbrev pub RowTold : Version → List ℤ → List ℤ → List ℤ → ℕ → RuleRead → Type 0
RowTold v row before after at r = (ws : List ℤ) → row ≡ as_table v ws → RuleTold v ws before after at r

-- the words of rules stand in the table from its front on, as many as fit, and it is told how many rules and words they are, their largest
-- atom, and whether none has a weight body
abbrev pub TableTold : Option (List InputRule) → List ℤ → List ℤ → Answer RulesPart → Type 0
TableTold none before after r = r ≡ None
TableTold (some P) before after r =
    (r ≡ Some (record { rules = length P; words = length (program_words P); top = atoms P; plain = all_plain P })) × (after ≡ sets before 0 (program_words P))

-- The reader's steps

-- how many bytes the step at the front takes; 0 where they are not there
unfoldable pub step_size : List ℕ → ℕ
step_size [] = 0
step_size (x ∷ []) = 0
step_size (x ∷ c ∷ bs) = cond (leb (2 * c) (length bs)) (2 + 2 * c) 0

-- a step that passes
abbrev pub if_passes : Option Letter → List ℤ → Option Step
if_passes none zs = none
if_passes (some x) zs = cond (step_passes (record { letter = x; numbers = zs })) (some (record { letter = x; numbers = zs })) none

-- the step at the front
unfoldable pub step_at : List ℕ → Option Step
step_at [] = none
step_at (x ∷ []) = none
step_at (x ∷ c ∷ bs) = if_passes (letter_in (class_of x)) (numbers_from 2 c bs)

-- a step's line stands in the text from `at` on, and the position after it is told, and its largest variable
abbrev pub StepTold : Option Step → List ℕ → List ℕ → ℕ → Answer Part → Type 0
StepTold none before after at r = r ≡ None
StepTold (some t) before after at r =
    (r ≡ Some (record { count = at + length (step_text t); top = top t.numbers })) × Put (step_text t) before after at (at + length (step_text t))

-- the lines of steps stand in the text from its front on, and their length is told, and their largest variable
abbrev pub TextTold : Option (List Step) → List ℕ → List ℕ → Answer Part → Type 0
TextTold none before after r = r ≡ None
TextTold (some ts) before after r = (r ≡ Some (record { count = length (text_of ts); top = steps_top ts })) × (after ≡ sets before 0 (text_of ts))

-- The reader's outputs

-- what the parts of a packet that are read come to: so many words of the table and bytes of the text, which stand in the outputs already,
-- and the largest variable
pub record Parts (v : Version) (size rules bytes largest : ℕ) (table : List ℤ) (proof : List ℕ) (P : List InputRule) (ts : List Step) : Type 0 where
  pub size_of : size ≡ length (program_words P)
  pub rules-of : rules ≡ length P
  pub bytes_of : bytes ≡ length (text_of ts)
  pub worded : all (has_words v) P ≡ true
  pub top_of : largest ≡ pair_top P ts
  pub table_of : table ≡ sets (replicate (length table) (pos 0)) 0 (program_words P)
  pub text-of : proof ≡ sets (replicate (length proof) 0) 0 (text_of ts)

-- what is given of the parts of a packet, whatever pair they are the parts of: the pair, where the version can hold it and the outputs do
abbrev pub Given : Version → ℕ → ℕ → ℕ → ℕ → List ℤ → List ℤ → List ℕ → List ℕ → PacketReading → Type 0
Given v size rules bytes largest table table' proof proof' r =
    (P : List InputRule) (ts : List Step) → Parts v size rules bytes largest table proof P ts
    → ReadLeaves (if_held (length table) (length proof) (if_fits v 53 (pair P ts))) table table' proof proof' r

-- the outputs hold zeros
abbrev pub Zeros : {A : Type 0} → A → List A → Type 0
Zeros z l = l ≡ replicate (length l) z
