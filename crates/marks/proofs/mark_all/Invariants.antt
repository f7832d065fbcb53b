use Rattle.std.proofs.Common.{◌≡◌, drop}
use Rattle.marks.specs.Marks.{mark_all}
use Rattle.marks.proofs.mark_all.Given as goal

abbrev pub invariant-loop-v : goal.invariant-loop-v
invariant-loop-v l = mark_all l.set l.initial.marks ≡ mark_all (drop l.v-index l.set) l.marks
