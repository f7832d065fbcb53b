-- `packets::reader::give` meets its contract.
-- Assumes nothing.
use Prim.Native.Nat.{◌≤◌}
use native.Mathlib.Omega.{arith}
use lib.ListN.{length}
use Rattle.packets.specs.Packets.{limit, pair_top}
use Rattle.packets.proofs.Given.{too_large, table-short, text-short, given}
use Rattle.packets.proofs.reader.give.Goals as goal

pub returns-then-limit_of-top : goal.returns-then-limit_of-top
returns-then-limit_of-top c P ts k =
    let a = c.args in
    let d = c in
    rw (too_large a.version P ts k.worded (length a.table.now) (length a.proof.now) (omega (arith, d.if-limit_of-top.true, d.limit_of.ensures, k.top_of)))
    c.refuse.ensures

pub returns-then-table-size : goal.returns-then-table-size
returns-then-table-size c P ts k =
    let a = c.args in
    let d = c in
    let fits : pair_top P ts ≤ limit a.version = omega (arith, d.if-limit_of-top.false, d.limit_of.ensures, k.top_of) in
    rw (table-short a.version P ts k.worded (length a.table.now) (length a.proof.now) fits (omega (arith, d.if-table-size.true, k.size_of)))
    c.refuse-then-table-size.ensures

pub returns-then-proof-bytes : goal.returns-then-proof-bytes
returns-then-proof-bytes c P ts k =
    let a = c.args in
    let d = c in
    let fits : pair_top P ts ≤ limit a.version = omega (arith, d.if-limit_of-top.false, d.limit_of.ensures, k.top_of) in
    rw (text-short a.version P ts k.worded (length a.table.now) (length a.proof.now) fits (omega (arith, d.if-proof-bytes.true, k.bytes_of)))
    c.refuse-then-proof-bytes.ensures

pub returns : goal.returns
returns c P ts k =
    let a = c.args in
    let f : a.top ≤ limit a.version = omega (arith, c.if-limit_of-top.false, c.limit_of.ensures) in
    given a.version a.size a.rules a.bytes a.top a.table.now a.proof.now P ts k f c.if-table-size.false c.if-proof-bytes.false
