use mathlib.Core.Path.{refl}
use Prim.Native.Nat.{◌*◌}
use native.Mathlib.Omega.{arith}
use lib.IntN.{pos}
use lib.ListN.{get_or, length-drop}
use mir.Syntax.{w32}
use mir.Val.{to_z, of_z}
use borrow.Author.Rules.{rules}
use Rattle.words.proofs.Parts.{tail_of}
use Rattle.words.proofs.Places.{in-at}
use Rattle.words.proofs.Words.{back}
use Rattle.nogoods.proofs.Defined.{pair-next}
use Rattle.nogoods.proofs.definitions.write_pairs.Goals as goal

pub write_pair-requires : goal.write_pair-requires
write_pair-requires c =
    let l = c.loop-i in
    let L = c.args.literals.now in
    let i = c.loop-i-test.true in
    let x = get_or L l.i (pos 0) in record {
      origin = c.requires.origin;
      room = (
        rw (back x (search rules)) (c.requires.room.0.high x (in-at (pos 0) L l.i i)),
        rw (tail_of (4 * l.i) l.free, length-drop) (omega (arith, i, l.auto.free, c.requires.room.1)),
      );
    }

pub loop-i-preserved : goal.loop-i-preserved
loop-i-preserved c =
    let l = c.loop-i in
    let L = c.args.literals.now in
    let x = get_or L l.i (pos 0) in
    pair-next c.args.origin (to_z w32 (of_z w32 c.args.name)) L c.args.free.now l.free c.write_pair.new.free (4 * l.i) l.i c.loop-i-test.true refl
    l.invariant (rw (back x (search rules)) at c.write_pair.ensures)
