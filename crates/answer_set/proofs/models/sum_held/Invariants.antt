use Rattle.std.proofs.Common.{◌≡◌, ◌+◌}
use Rattle.std.specs.Slice.Iter.{chunks_exact_size, chunks_exact_rest}
use Rattle.weights.specs.Weights.{paired}
use Rattle.marks.specs.Marks.{marked}
use Rattle.answer_set.specs.SetTest.{held_sum}
use Rattle.answer_set.proofs.models.sum_held.Given as goal

abbrev pub invariant-loop-pair : goal.invariant-loop-pair
invariant-loop-pair l =
    (chunks_exact_size l.pair-iterator ≡ 2)
    × (held_sum (marked l.inside) (marked l.marks) (paired l.pairs) ≡ l.total + held_sum (marked l.inside) (marked l.marks) (paired (chunks_exact_rest l.pair-iterator)))
