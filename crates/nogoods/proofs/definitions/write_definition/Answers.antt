use Prim.Native.Nat.{◌+◌}
use native.Mathlib.Omega.{arith}
use lib.IntN.{pos}
use lib.ListN.{length, drop, get_or, length-drop}
use Rattle.words.proofs.Parts.{tail_of}
use Rattle.words.proofs.Places.{in-at}
use Rattle.words.proofs.Sorting.{length-ascending}
use Rattle.words.proofs.Words.{back}
use Rattle.nogoods.specs.Store.{header_size}
use Rattle.nogoods.proofs.Literals.{literals-ascending, literals-tail}
use Rattle.nogoods.proofs.Defined.{name-and-literals, others-sorted, definition-written}
use Rattle.nogoods.proofs.definitions.write_definition.Goals as goal

pub write_first-requires : goal.write_first-requires
write_first-requires c = let s = c in
    let l = s.args.numbers.now in
    let p = s.requires.numbers in record { origin = s.requires.origin; numbers = (p.0.high (get_or l 0 (pos 0)) (in-at (pos 0) l 0 p.1), p.1); room = (p.2, omega (arith, p.1, s.requires.room)) }

pub write_pairs-requires : goal.write_pairs-requires
write_pairs-requires c = let o = c in
    let w = o.write_first in
    let s = c in
    let l = s.args.numbers.now in
    let end = header_size + length l in rw (others-sorted l o.sort.new.words s.requires.numbers.1 o.sort.ensures, tail_of end w.new.free, length-drop, length-ascending, w.auto.free) (record {
      origin = s.requires.origin;
      room = (
        literals-ascending (drop 1 l) (literals-tail (get_or l 0 (pos 0)) (drop 1 l) (name-and-literals l s.requires.numbers.1 s.requires.numbers.0)),
        omega (arith, length-drop 1 l, s.requires.numbers.1, s.requires.room),
      );
    })

pub returns : goal.returns
returns c =
    let o = c in
    let w = o.write_first in
    let s = c in
    let l = s.args.numbers.now in
    definition-written s.args.origin (get_or l 0 (pos 0)) (drop 1 l) s.args.free.now w.new.free c.write_pairs.new.free (header_size + length l)
    (omega (arith, length-drop 1 l, s.requires.numbers.1)) w.ensures
    (rw (
      others-sorted l o.sort.new.words s.requires.numbers.1 o.sort.ensures,
      back (get_or l 0 (pos 0)) o.name-1.given,
    ) at c.write_pairs.ensures)
