use mathlib.Core.Path.{◌∙◌}
use Prim.Native.Nat.{◌*◌}
use native.Mathlib.Omega.{arith}
use lib.IntN.{pos}
use lib.ListN.{get_or, length-set}
use Rattle.std.proofs.Common.{rules}
use Rattle.words.proofs.Words.{back}
use Rattle.aspif.proofs.Pairs.{literals-more, literals-all}
use Rattle.aspif.proofs.rules.copy_literals.Goals as goal

pub loop-i-preserved : goal.loop-i-preserved
loop-i-preserved c =
    let l = c.loop-i in
    let a = c.args in
    let e = back (get_or a.pairs.now (2 * l.i) (pos 0)) (search rules) in
    (simp length-set l.invariant.0, rw (l.invariant.1, e) (literals-more a.pairs.now a.row.now l.i c.requires (omega arith)))

pub returns : goal.returns
returns c = let l = c.loop-i in l.invariant.1 ∙ literals-all c.args.pairs.now c.args.row.now l.i c.requires (omega arith)
