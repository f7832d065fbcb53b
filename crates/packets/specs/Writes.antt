-- What the private functions of the writer come to; no reader of a public contract needs it.
-- Assumes nothing.
use Rattle.std.specs.Prelude.{◌≡◌, Bool, true, false, cond, List, ℕ, ◌+◌, ◌*◌, length}
use Rattle.words.specs.Limits.{most_rules, most_numbers}
use Rattle.text.specs.Writing.{Put}
use Rattle.drupe.specs.Texts.{Step, StepsRead, steps, refused}
use Rattle.packets.specs.Packets.{steps_bytes, steps_top}
use Rattle.packets.specs.Parts.{most_words}
use Rattle.packets.specs.declared.PacketWriting.{PacketWriting}
use Rattle.packets.specs.declared.PacketWriting.TheVariants.{Written, Refused}
use Rattle.packets.specs.declared.writer.StepsPut.{StepsPut}

-- Bounds on positions, which only keep sums from wrapping: room for a rule, and for a step were its numbers 4 bytes each, and where the
-- last rule ends at the latest
abbrev pub rule_room : ℕ
rule_room = 4 * most_words

abbrev pub step_room : ℕ
step_room = 2 + 4 * most_numbers

abbrev pub last_rule_end : ℕ
last_rule_end = 13 + rule_room * most_rules

-- a proof text passes
abbrev pub is_read : StepsRead → Bool
is_read (steps ts) = true
is_read (refused before k n) = false

-- the steps of a proof text up to the first line that is refused
abbrev pub steps_read : StepsRead → List Step
steps_read (steps ts) = ts
steps_read (refused before k n) = before

-- what is put of a proof text: the bytes of its steps from `at` on, how many steps, their largest variable, and whether they are all that
-- the text has
pub record StepsPutAs (read : StepsRead) (before after : List ℕ) (at : ℕ) (r : StepsPut) : Type 0 where
  pub good : r.good ≡ is_read read
  pub count : r.steps ≡ length (steps_read read)
  pub largest : r.top ≡ steps_top (steps_read read)
  pub put : Put (steps_bytes (steps_read read)) before after at r.end

-- 53, then 52: of a packet of so many bytes, whether its text passes and whether it fits
abbrev pub writing_told : Bool → ℕ → Bool → PacketWriting
writing_told good size fits = cond good (cond fits (Written size) (Refused 52)) (Refused 53)
