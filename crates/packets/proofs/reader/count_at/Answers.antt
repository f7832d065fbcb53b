-- `packets::reader::count_at` meets its contract.
-- Assumes nothing.
use mathlib.Core.Path.{◌∙◌, ap}
use Rattle.packets.specs.Bytes.{value}
use Rattle.packets.proofs.Littles.{plain-bytes, part-is}
use Rattle.packets.proofs.reader.count_at.Goals as goal

pub returns : goal.returns
returns c =
    let a = c.args in
    let e = c.value_of.ensures in
    (e.0 ∙ ap value (plain-bytes _ ∙ part-is 4 a.at a.packet.now), e.1)
