use Rattle.std.proofs.Common.{◌*◌, ◌&&◌, ◌||◌, drop}
use Rattle.words.specs.Lists.{any}
use Rattle.weights.specs.Weights.{paired}
use Rattle.loops.specs.Edges.{is_place, is_at, edge_at, any_marked}
use Rattle.loops.proofs.EdgeMarks.{Filling}
use Rattle.loops.proofs.edges.mark_pairs.Given as goal

abbrev pub invariant-loop-k : goal.invariant-loop-k
invariant-loop-k l =
    Filling l.edges (λ a b. any_marked (is_at l.places a) l.relevant l.k (paired (drop (2 * l.k) l.pairs)) && any (is_place b) l.heads)
    (λ a b. edge_at l.initial.edges a b || (any_marked (is_at l.places a) l.relevant 0 (paired l.pairs) && any (is_place b) l.heads))
