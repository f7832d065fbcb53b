use mathlib.Core.Path.{◌≡◌, ◌∙◌}
use borrow.Author.Rules.{sfits_of}
use borrow.Author.Tests.{lt-ltb, le-ltb}
use mir.Syntax.{w32}
use mir.Val.{to_z, of_z}
use mir.Facts.{to_z-of_z}
use lib.IntN.{pos}
use lib.ListN.{get_or}
use Rattle.aspif.proofs.rules.is_at.Goals as goal

pub returns-then-i-count : goal.returns-then-i-count
returns-then-i-count c =
    let s = c in
    let w = c.word_at in
    let e : to_z w32 (of_z w32 w.result) ≡ get_or s.args.row.now s.args.i (pos 0) = to_z-of_z {w = w32} (sfits_of {z = w.result} w.type_inv) ∙ w.ensures in
    c.is_same.ensures ∙ rw (e, to_z-of_z s.ranges.n, lt-ltb _ _ c.if-i-count.true)

pub returns-else-i-count : goal.returns-else-i-count
returns-else-i-count c =
    rw (le-ltb _ _ c.if-i-count.false)
