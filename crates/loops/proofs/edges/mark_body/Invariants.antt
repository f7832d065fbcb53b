use Rattle.std.proofs.Common.{◌&&◌, ◌||◌, drop}
use Rattle.words.specs.Lists.{any}
use Rattle.loops.specs.Edges.{is_place, is_at, edge_at}
use Rattle.loops.proofs.EdgeMarks.{Filling}
use Rattle.loops.proofs.edges.mark_body.Given as goal

abbrev pub invariant-loop-x : goal.invariant-loop-x
invariant-loop-x l =
    Filling l.edges (λ i j. any (is_at l.places i) (drop l.x-index l.body) && any (is_place j) l.heads)
    (λ i j. edge_at l.initial.edges i j || (any (is_at l.places i) l.body && any (is_place j) l.heads))
