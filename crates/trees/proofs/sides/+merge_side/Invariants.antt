-- `sides::merge_side`: the depth is the measure, since each side has one split less below it.
use Rattle.trees.proofs.sides.+merge_side.Given as goal

abbrev pub decreases-merge_side : goal.decreases-merge_side
decreases-merge_side l = l.place.depth
