use Rattle.loops.proofs.HeadPlaces.{puts_one}
use Rattle.loops.proofs.edges.put_place.Goals as goal

pub returns : goal.returns
returns c = let s = c in puts_one s.args.n s.args.place s.args.row.now s.requires.0 s.requires.1
