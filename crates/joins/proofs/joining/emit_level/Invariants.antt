use mathlib.Core.List.{map}
use lib.ListN.{take}
use Rattle.words.specs.Lists.{concat}
use Rattle.totalizer.specs.Emitting.{Emits}
use Rattle.joins.specs.Joining.{shares_of, share_rules}
use Rattle.joins.proofs.joining.emit_level.Given as goal

abbrev pub invariant-loop-i : goal.invariant-loop-i
invariant-loop-i l =
    Emits (concat (map (share_rules l.atom l.level (shares_of l.first l.left) (shares_of l.second l.right)) (take l.i (shares_of l.first l.left)))) l.initial.output l.output l.initial.here l.here
