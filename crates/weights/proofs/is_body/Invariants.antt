use Rattle.std.proofs.Common.{◌≡◌}
use Rattle.std.specs.Slice.Iter.{chunks_exact_size, chunks_exact_rest}
use Rattle.weights.proofs.Merging.{Merge}
use Rattle.weights.proofs.is_body.Given as goal

abbrev pub invariant-loop-pair : goal.invariant-loop-pair
invariant-loop-pair l = (chunks_exact_size l.pair-iterator ≡ 2) × Merge l.pairs l.list (chunks_exact_rest l.pair-iterator) l.bound l.total l.least l.j
