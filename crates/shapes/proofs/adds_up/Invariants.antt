use mathlib.Core.Path.{◌≡◌}
use Prim.Native.Nat.{◌+◌}
use lib.ListN.{drop}
use Rattle.shapes.specs.Tree.{sum}
use Rattle.shapes.proofs.adds_up.Given as goal

abbrev pub invariant-loop-length : goal.invariant-loop-length
invariant-loop-length l = l.size + sum (drop l.length-index l.lengths) ≡ l.left + sum l.lengths
