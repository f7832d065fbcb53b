-- `packets::writer::write_as` meets its contract.
-- Assumes nothing.
use mathlib.Core.Path.{◌≡◌, refl, sym, ◌∙◌}
use mathlib.Core.Bool.{true}
use lib.ListN.{length}
use Rattle.aspif.specs.Tables.{sound_table}
use Rattle.aspif.proofs.Cursors.{sound-rules}
use Rattle.packets.proofs.Writes.{no_table, no-packet, refusal-written}
use Rattle.packets.proofs.writer.write_as.Goals as goal
use Rattle.packets.proofs.writer.write_as.Goals.{Else-not-is_readable}

pub returns-then-not-is_readable : goal.returns-then-not-is_readable
returns-then-not-is_readable c =
    let b = c in
    let a = b.args in
    let t = sym c.is_readable.ensures ∙ c.if-not-is_readable.true in
    refusal-written a.packet.now _ (no_table a.version a.table.now a.rules a.proof.now (length a.packet.now) t) refl b.requires

-- question 41 lets the table pass
sound : (c : Else-not-is_readable) → sound_table c.args.table.now c.args.rules ≡ true
sound c = sym c.is_readable.ensures ∙ c.if-not-is_readable.false

pub all_have_words-requires : goal.all_have_words-requires
all_have_words-requires c = let a = c.args in sound-rules a.table.now a.rules (sound c)

pub returns-then-not-all_have_words : goal.returns-then-not-all_have_words
returns-then-not-all_have_words c =
    let b = c in
    let a = b.args in
    let p = sym c.all_have_words.ensures ∙ c.if-not-all_have_words.true in
    refusal-written a.packet.now _ (no-packet a.version a.table.now a.rules a.proof.now (length a.packet.now) (sound (goal.at.returns-then-not-all_have_words c).Else-not-is_readable) p) refl b.requires

pub write_pair-requires : goal.write_pair-requires
write_pair-requires c = let p = sym c.all_have_words.ensures ∙ c.if-not-all_have_words.false in record { rules_value = (sound (goal.at.write_pair-requires c).Else-not-is_readable, p); packet_value = c.requires }

pub returns : goal.returns
returns c = c.write_pair.ensures
