use mathlib.Core.Path.{◌∙◌}
use native.Mathlib.Omega.{arith}
use borrow.Author.Rules.{sfits_of}
use lib.ListN.{length-set}
use mir.Syntax.{w32}
use mir.Facts.{to_z-of_z, to_z_pos}
use Rattle.aspif.proofs.Rows.{counts-written}
use Rattle.aspif.proofs.rules.write_counts.Goals as goal

pub bounds-free-1 : goal.bounds-free-1
bounds-free-1 c = simp length-set (omega (arith, c.requires.sizes))

pub bounds-free-2 : goal.bounds-free-2
bounds-free-2 c = simp length-set (omega (arith, c.requires.sizes))

pub returns : goal.returns
returns c =
    let s = c in
    let k = to_z-of_z {w = w32} (sfits_of {z = c.kind_word.result} c.kind_word.type_inv) ∙ c.kind_word.ensures in
    counts-written s.args.free.now _ _ _ _ s.requires.sizes.2 k (to_z_pos w32 (omega (arith, s.requires.sizes))) (to_z-of_z s.ranges.body_kind)
    (to_z_pos w32 (omega (arith, s.requires.sizes)))
