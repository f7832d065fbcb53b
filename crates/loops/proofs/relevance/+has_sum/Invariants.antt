-- `relevance::has_sum`: the words of the pairs are the measure, since each call of itself has two less.
use Rattle.std.proofs.Common.{length}
use Rattle.loops.proofs.relevance.+has_sum.Given as goal

abbrev pub decreases-has_sum : goal.decreases-has_sum
decreases-has_sum l = length l.pairs.now
