use Rattle.std.proofs.Common.{◌≡◌, ◌+◌}
use Rattle.std.specs.Slice.Iter.{chunks_exact_size, chunks_exact_rest}
use Rattle.weights.specs.Weights.{sum, paired}
use Rattle.weights.proofs.sum_of.Given as goal

abbrev pub invariant-loop-pair : goal.invariant-loop-pair
invariant-loop-pair l = (chunks_exact_size l.pair-iterator ≡ 2) × (sum (paired l.pairs) ≡ l.total + sum (paired (chunks_exact_rest l.pair-iterator)))
