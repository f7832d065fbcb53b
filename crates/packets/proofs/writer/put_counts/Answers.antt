-- `packets::writer::put_counts` meets its contract.
-- Assumes nothing.
use native.Mathlib.Omega.{arith}
use Rattle.aspif.specs.Rules.{kind_word}
use Rattle.packets.proofs.Writes.{counts-put}
use Rattle.packets.proofs.writer.put_counts.Goals as goal

pub returns : goal.returns
returns c = let a = c.args in
    let p = c.put_count-first.ensures in
    let q = c.put_count-second.ensures in
    let r = c.put_count.ensures in record { put = counts-put (kind_word a.kind) c.kind_number.result a.heads a.body c.kind_number.ensures p.put q.put r.put; value = omega (arith, p.value, q.value, r.value) }
