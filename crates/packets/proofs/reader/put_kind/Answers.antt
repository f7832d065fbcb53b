-- `packets::reader::put_kind` meets its contract.
-- Assumes nothing.
use native.Mathlib.Omega.{arith}
use lib.IntN.{pos}
use lib.ListN.{get_or, length-set}
use mir.Syntax.{w32}
use mir.Val.{to_z, of_z}
use Rattle.words.proofs.Words.{back}
use Rattle.packets.proofs.RulesRead.{kind-put}
use Rattle.packets.proofs.reader.put_kind.Goals as goal

pub bounds-row-1 : goal.bounds-row-1
bounds-row-1 c =
    let a = c in
    let row = a.args.row.now in
    omega (arith, a.requires, length-set row 0 (to_z w32 (of_z w32 (get_or row 1 (pos 0)))))

pub returns : goal.returns
returns c =
    let a = c in
    let p = back (get_or a.args.row.now 1 (pos 0)) c.row-1.given in
    kind-put a.args.row.now a.requires p (back _ c.row-2-1.given)
