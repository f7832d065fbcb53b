use Rattle.std.proofs.Common.{◌≡◌, false, drop}
use Rattle.marks.specs.Marks.{marked}
use Rattle.answer_set.specs.SetTest.{give_heads}
use Rattle.answer_set.proofs.models.give_heads.Given as goal

abbrev pub invariant-loop-head : goal.invariant-loop-head
invariant-loop-head l =
    (give_heads (marked l.inside) l.kind l.heads l.initial.marks ≡ give_heads (marked l.inside) l.kind (drop l.head-index l.heads) l.marks)
    × (l.new ≡ false → l.marks ≡ l.initial.marks)
