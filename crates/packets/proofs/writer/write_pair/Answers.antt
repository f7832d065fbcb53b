-- `packets::writer::write_pair` meets its contract.
-- Assumes nothing.
use mathlib.Core.Path.{◌≡◌, refl, ◌∙◌, ap, ap₂}
use mathlib.Core.Bool.{Bool, ◌&&◌}
use mathlib.Core.List.{List}
use Prim.Native.Nat.{ℕ, max}
use native.Mathlib.Omega.{arith}
use lib.Dec.{leb}
use lib.ListN.{length, replicate}
use Rattle.text.specs.Writing.{Put}
use Rattle.aspif.specs.Rules.{InputRule}
use Rattle.aspif.specs.Tables.{rules_at}
use Rattle.aspif.proofs.Cursors.{few-rules, sound-rules}
use Rattle.drupe.specs.Texts.{Step, steps_of}
use Rattle.packets.specs.Bytes.{bytes_of}
use Rattle.packets.specs.Packets.{packet_words, packet_of, limit, pair_top, writing}
use Rattle.packets.specs.declared.Version.{Version}
use Rattle.packets.specs.Writes.{is_read, steps_read, StepsPutAs, writing_told}
use Rattle.packets.proofs.Writes.{put-length, packet-put, packet-ends, by_questions, asked, answer-told, zeros-left, packet-left}
use Rattle.packets.proofs.writer.write_pair.Goals as goal
use Rattle.packets.proofs.writer.write_pair.Goals.{After-answer_of-answer, After-put_steps-put, After-put_rules-middle}
use Rattle.packets.proofs.writer.write_pair.Lts.View as view
use Rattle.packets.proofs.writer.write_pair.Reads as reads
use Rattle.packets.proofs.writer.write_pair.Tie as tie

pub put_rules-middle-requires : goal.put_rules-middle-requires
put_rules-middle-requires c = let a = c in record { table_value = (sound-rules a.args.table.now a.args.rules a.requires.rules_value.0, a.requires.rules_value.1); rules_le_most_rules = (few-rules a.args.table.now a.args.rules a.requires.rules_value.0, omega arith) }

pub largest_atom-requires : goal.largest_atom-requires
largest_atom-requires c = let a = c in sound-rules a.args.table.now a.args.rules a.requires.rules_value.0

-- the rules and the steps are put, and the questions asked
module _ (c : After-answer_of-answer) where
  abbrev v : Version
  v = c.args.version

  abbrev steps-put : After-put_steps-put
  steps-put = (view.up-After-put_steps-put tie.the-claims reads.Pre reads.Post tie.handed_clauses c.before.before.before.before.before.before.before.before.before)

  abbrev rules-put : After-put_rules-middle
  rules-put = (view.up-After-put_rules-middle tie.the-claims reads.Pre reads.Post tie.handed_clauses c.before.before.before.before.before.before.before.before.before.before.before.before.before)

  abbrev proof : List ℕ
  proof = c.args.proof.now

  abbrev packet : List ℕ
  packet = c.args.packet.now

  abbrev P : List InputRule
  P = rules_at c.args.rules c.args.table.now

  abbrev ts : List Step
  ts = steps_read (steps_of proof)

  abbrev whole : List ℕ
  whole = packet_of v P ts

  abbrev good : Bool
  good = is_read (steps_of proof) && leb (pair_top P ts) (limit v)

  abbrev fits : Bool
  fits = leb (length whole) (length packet)

  R : Put (bytes_of 4 (packet_words v P)) packet rules-put.put_rules-middle.new.buffer 13 rules-put.put_rules-middle.result
  R = rules-put.put_rules-middle.ensures.put

  S : StepsPutAs (steps_of proof) rules-put.put_rules-middle.new.buffer steps-put.put_steps-put.new.buffer rules-put.put_rules-middle.result steps-put.put_steps-put.result
  S = steps-put.put_steps-put.ensures

  same : length steps-put.put_steps-put.new.buffer ≡ length packet
  same = put-length S.put ∙ put-length R

  passes : (steps-put.put_steps-put.result.good && leb c.larger-top.result c.limit_of.result) ≡ good
  passes =
      let m = c.larger-top.ensures ∙ ap₂ max c.largest_atom.ensures S.largest in
      ap₂ (λ (b d : Bool). b && d) S.good (ap₂ leb m c.limit_of.ensures)

  told : c.answer_of-answer.result ≡ writing_told good (length whole) fits
  told = answer-told _ _ _ _ (length steps-put.put_steps-put.new.buffer) _ c.answer_of-answer.ensures passes (packet-ends v P ts R S.put) same

  comes-to : writing v c.args.table.now c.args.rules proof (length packet) ≡ by_questions good fits whole
  comes-to = asked v c.args.table.now c.args.rules proof (length packet) c.requires.rules_value.0 c.requires.rules_value.1

pub returns-in-Written : goal.returns-in-Written
returns-in-Written c =
    let d = (goal.at.returns-in-Written c).After-answer_of-answer in
    packet-left (good d) (fits d) (whole d) (packet d) _ (comes-to d) (told d) _ c.in-Written.is refl d.requires.packet_value (packet-put (v d) (P d) (ts d) _ (R d) (S d).put (S d).count c.put_header.ensures)

pub returns-in-Refused : goal.returns-in-Refused
returns-in-Refused c =
    let d = (goal.at.returns-in-Refused c).After-answer_of-answer in
    let z : ℕ → List ℕ = λ n. replicate n 0 in
    zeros-left (good d) (fits d) (whole d) (packet d) _ (comes-to d) (told d) _ c.in-Refused.is (c.zero_all.ensures ∙ ap z (same d))
