use mathlib.Core.List.{map}
use lib.ListN.{take}
use Rattle.nogoods.specs.Store.{added_in, words_of}
use Rattle.nogoods.specs.Keeps.{WrittenFront}
use Rattle.nogoods.specs.Definitions.{pair}
use Rattle.nogoods.proofs.definitions.write_pairs.Given as goal

abbrev pub invariant-loop-i : goal.invariant-loop-i
invariant-loop-i l =
    WrittenFront (words_of (added_in l.origin (map (pair l.name) (take l.i l.literals)))) l.initial.free l.free
