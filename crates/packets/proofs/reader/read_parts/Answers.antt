-- `packets::reader::read_parts` meets its contract.
-- Assumes nothing.
use mathlib.Core.Path.{refl}
use Rattle.text.specs.Classes.{byte_classes}
use Rattle.packets.proofs.Given.{read_kept, no-rules, no_steps, both}
use borrow.Author.Rules.{rules}
use Rattle.packets.proofs.reader.read_parts.Goals as goal

pub read_steps-requires : goal.read_steps-requires
unfolding byte_classes
read_steps-requires c = record { bytes_value = search rules; classes_value = search rules }

pub returns-in_default : goal.returns-in_default
returns-in_default c =
    let a = c.args in
    let s = c.read_steps in
    rw (no_steps a.version a.count a.words.now a.steps a.bytes.now a.proof.now _ c.in_default.is s.ensures)
    (read_kept {table = a.table.now} {proof = a.proof.now} refl s.auto.proof c.refuse.ensures)

pub returns-in_default-read_rules : goal.returns-in_default-read_rules
returns-in_default-read_rules c =
    let a = c.args in
    let r = c.read_rules in
    rw (no-rules a.version a.count a.words.now a.steps a.bytes.now a.table.now _ c.in_default-read_rules.is r.ensures)
    (read_kept {table = a.table.now} {proof = a.proof.now} r.auto.table c.read_steps.auto.proof c.refuse-in_default-read_rules.ensures)

pub returns : goal.returns
returns c =
    let a = c.args in
    let r = c.read_rules in
    let s = c.read_steps in
    let z = c.requires.zeros in
    both a.version a.count a.words.now a.steps a.bytes.now a.table.now _ _ a.proof.now _ _ z.0 z.1 r.auto.table s.auto.proof c.in-Some-read_rules.is r.ensures c.in-Some.is s.ensures c.larger-top.ensures c.give.ensures
