use mathlib.Core.Path.{◌≡◌, ◌∙◌}
use lib.IntN.{pos}
use lib.ListN.{get_or, length-set}
use mir.Syntax.{w32}
use mir.Val.{to_z, of_z}
use mir.Facts.{to_z-of_z}
use borrow.Author.Rules.{sfits_of}
use Rattle.std.proofs.Common.{rules}
use Rattle.words.proofs.Words.{back}
use Rattle.weights.specs.Weights.{paired}
use Rattle.aspif.specs.Reading.{weight_in}
use Rattle.aspif.proofs.Pairs.{pairs-more}
use Rattle.aspif.proofs.rules.write_pairs.Goals as goal

pub loop-i-preserved : goal.loop-i-preserved
loop-i-preserved c =
    let l = c.loop-i in
    let ls = c.args.literals.now in
    let w = c.weight_in in
    let literal : to_z w32 (of_z w32 (get_or ls l.i (pos 0))) ≡ get_or ls l.i (pos 0) = back (get_or ls l.i (pos 0)) (search rules) in
    let weight : to_z w32 (of_z w32 w.result) ≡ pos (weight_in (paired c.args.pairs.now) (get_or ls l.i (pos 0))) = to_z-of_z {w = w32} (sfits_of {z = w.result} w.type_inv) ∙ rw literal at w.ensures in
    (simp length-set l.invariant.0, rw l.invariant.1 (pairs-more c.args.pairs.now ls c.args.free.now l.i c.loop-i-test.true c.requires.sizes.1 literal weight))
