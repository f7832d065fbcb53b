-- `shapes::shape`: the depth is the measure, since each side has one split less below it.
use Rattle.shapes.proofs.+shape.Given as goal

abbrev pub decreases-shape : goal.decreases-shape
decreases-shape l = l.depth
