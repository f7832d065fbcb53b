use lib.IntN.{ℤ}
use lib.ListN.{take}
use Rattle.words.specs.Lists.{◌∈◌}
use Rattle.heads.specs.Heads.{headed_to, headed_at, Place, Collected}
use Rattle.heads.proofs.Walks.{Walk}
use Rattle.heads.proofs.Externals.{Got}
use Rattle.heads.proofs.gather_head.Given as goal

abbrev pub invariant-loop-p : goal.invariant-loop-p
invariant-loop-p l =
    Collected l.table l.rules l.names l.inside l.row l.count
    × ((x : ℤ) → x ∈ take l.n l.initial.row → x ∈ take l.count l.row)
    × Walk (Place (headed_to l.rules l.table)) (Place (headed_to l.rules l.table)) l.v (λ x. Got l.table l.rules l.names l.inside l.row l.count (headed_at (headed_to l.rules l.table) x).rule) l.p

abbrev pub decreases-loop-p : goal.decreases-loop-p
decreases-loop-p l = l.p
