-- `packets::reader::put_at` meets its contract.
-- Assumes nothing.
use native.Mathlib.Omega.{arith}
use Rattle.packets.proofs.RulesRead.{tail-put, none-put}
use Rattle.packets.proofs.reader.put_at.Goals as goal

pub returns-then-at-table : goal.returns-then-at-table
returns-then-at-table c =
    let a = c.args in
    tail-put a.at a.table.now a.row.now c.if-at-table.true c.put_words.ensures

pub returns-else-at-table : goal.returns-else-at-table
returns-else-at-table c = let a = c.args in none-put a.at a.table.now a.row.now (omega (arith, c.if-at-table.false))
