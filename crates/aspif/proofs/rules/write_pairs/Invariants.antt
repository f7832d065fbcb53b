use mathlib.Core.Path.{◌≡◌}
use mathlib.Core.List.{◌++◌}
use Prim.Native.Nat.{◌*◌}
use lib.ListN.{length, take, drop}
use Rattle.weights.specs.Weights.{pair_words}
use Rattle.aspif.specs.Turns.{weighted}
use Rattle.aspif.proofs.rules.write_pairs.Given as goal

abbrev pub invariant-loop-i : goal.invariant-loop-i
invariant-loop-i l = (length l.free ≡ length l.initial.free) × (l.free ≡ pair_words (weighted l.pairs (take l.i l.literals)) ++ drop (2 * l.i) l.initial.free)
