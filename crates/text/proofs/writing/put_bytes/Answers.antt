-- `text::writing::put_bytes` meets its contract. After i turns the first i bytes are put.
-- Assumes nothing.
use mathlib.Core.Path.{◌≡◌, refl, ◌∙◌}
use native.Mathlib.Omega.{arith}
use lib.ListN.{length}
use lib.Seq.{take-length}
use Rattle.text.proofs.Puts.{sets_more}
use Rattle.text.proofs.writing.put_bytes.Goals as goal

pub loop-i-preserved : goal.loop-i-preserved
loop-i-preserved c =
    let a = c.args in
    let l = c.loop-i in
    c.put.ensures ∙ rw l.invariant (sets_more a.bytes.now a.buffer.now a.at l.i (omega arith))

pub returns : goal.returns
returns c =
    let l = c.loop-i in
    let e : l.i ≡ length c.args.bytes.now = omega arith in
    record { stands = l.invariant ∙ rw (e, take-length); ends = refl }
