use Rattle.std.proofs.Common.{suc, ◌&&◌, ◌||◌, eqb, drop}
use Rattle.words.specs.Lists.{any}
use Rattle.loops.specs.Edges.{is_place, edge_at}
use Rattle.loops.proofs.EdgeMarks.{Filling}
use Rattle.loops.proofs.edges.mark_heads.Given as goal

abbrev pub invariant-loop-h : goal.invariant-loop-h
invariant-loop-h l =
    Filling l.edges (λ i j. eqb l.a (suc i) && any (is_place j) (drop l.h-index l.heads)) (λ i j. edge_at l.initial.edges i j || (eqb l.a (suc i) && any (is_place j) l.heads))
