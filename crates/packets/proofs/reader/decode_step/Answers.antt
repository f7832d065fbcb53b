-- `packets::reader::decode_step` meets its contract.
-- Assumes nothing.
use mathlib.Core.Path.{◌≡◌, refl, sym, ◌∙◌}
use lib.ListN.{length}
use Rattle.words.specs.Literals.{top}
use Rattle.packets.specs.Bytes.{numbers_from}
use Rattle.packets.proofs.Decoded.{has-zero, not_good, good, step-told}
use Rattle.packets.proofs.reader.decode_step.Goals as goal

pub returns-then-contains : goal.returns-then-contains
returns-then-contains c =
    let a = c.args in
    let e = c.read_numbers.ensures in
    rw (has-zero a.letter (numbers_from 2 (length a.row.now) a.bytes.now) (sym (rw e at c.contains.ensures) ∙ c.if-contains.true)) refl

pub returns-then-is_good : goal.returns-then-is_good
returns-then-is_good c =
    let a = c.args in
    let e = c.read_numbers.ensures in
    let zs = numbers_from 2 (length a.row.now) a.bytes.now in
    let z = sym (rw e at c.contains.ensures) ∙ c.if-contains.false in
    let g = sym (rw e at c.is_good.ensures) ∙ c.if-is_good.true in
    let v : c.largest_variable-top.result ≡ top zs = rw e at c.largest_variable-top.ensures in
    rw (v, good a.letter zs z g) (step-told (record { letter = a.letter; numbers = zs }) (rw e at c.write_step-end.ensures.written))

pub returns : goal.returns
returns c =
    let a = c.args in
    let e = c.read_numbers.ensures in
    rw (not_good a.letter (numbers_from 2 (length a.row.now) a.bytes.now) (sym (rw e at c.is_good.ensures) ∙ c.if-is_good.false)) refl
