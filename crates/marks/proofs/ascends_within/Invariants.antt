use Rattle.std.proofs.Common.{◌≡◌, drop}
use Rattle.words.specs.Lists.{ascends}
use Rattle.marks.proofs.ascends_within.Given as goal

abbrev pub invariant-loop-x : goal.invariant-loop-x
invariant-loop-x l = ascends 0 l.high l.set ≡ ascends l.low l.high (drop l.x-index l.set)
