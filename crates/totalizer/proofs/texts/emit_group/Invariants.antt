use mathlib.Core.List.{map}
use lib.ListN.{take}
use Rattle.weights.specs.Weights.{paired}
use Rattle.sums.specs.Plans.{numbered, group_rule}
use Rattle.totalizer.specs.Emitting.{Emits}
use Rattle.totalizer.proofs.texts.emit_group.Given as goal

abbrev pub invariant-loop-i : goal.invariant-loop-i
invariant-loop-i l = Emits (map group_rule (numbered l.atom (paired l.pairs) (take l.i l.levels))) l.initial.output l.output l.initial.here l.here
