use mathlib.Core.List.{[], ◌∷◌}
use lib.IntN.{pos}
use Rattle.heads.specs.Heads.{headed_to, headed_at, Place}
use Rattle.heads.proofs.Walks.{Walk}
use Rattle.loops.proofs.Chained.{Drawn, Drawing}
use Rattle.loops.proofs.edges.mark_chain.Given as goal

abbrev pub invariant-loop-p : goal.invariant-loop-p
invariant-loop-p l =
    Drawing l.table l.rules l.places (pos l.v ∷ []) l.initial.edges l.edges
    × Walk (Place (headed_to l.rules l.table)) (Place (headed_to l.rules l.table)) l.v (λ x. Drawn l.table l.rules l.places (pos l.v ∷ []) l.edges (headed_at (headed_to l.rules l.table) x).rule) l.p

abbrev pub decreases-loop-p : goal.decreases-loop-p
decreases-loop-p l = l.p
