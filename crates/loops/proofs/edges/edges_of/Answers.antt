use Rattle.loops.proofs.Placing.{placed-low}
use Rattle.loops.proofs.edges.edges_of.Goals as goal

pub scan-requires-clause-places : goal.scan-requires-clause-places
scan-requires-clause-places c = placed-low c.requires.places.0.few c.requires.places.1
