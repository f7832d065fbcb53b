use Rattle.std.proofs.Common.{◌&&◌, drop}
use Rattle.words.specs.Lists.{any}
use Rattle.loops.specs.Edges.{is_at}
use Rattle.loops.proofs.EdgeMarks.{Filling}
use Rattle.loops.proofs.Chained.{edges_all}
use Rattle.loops.proofs.edges.look_up.Given as goal

abbrev pub invariant-loop-x : goal.invariant-loop-x
invariant-loop-x l =
    Filling l.edges (λ a b. any (is_at l.places b) (drop l.x-index l.numbers) && edges_all l.table l.rules l.places a b) (edges_all l.table l.rules l.places)
