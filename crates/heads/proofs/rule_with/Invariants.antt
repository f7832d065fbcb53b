use Rattle.heads.specs.Heads.{hash_from, BodyPlace}
use Rattle.heads.proofs.Walks.{Walk}
use Rattle.heads.proofs.Bodies.{Other}
use Rattle.heads.proofs.rule_with.Given as goal

abbrev pub invariant-loop-p : goal.invariant-loop-p
invariant-loop-p l = Walk (BodyPlace l.table l.rules) (BodyPlace l.table l.rules) (hash_from 0 l.body) (Other l.table l.body) l.p

abbrev pub decreases-loop-p : goal.decreases-loop-p
decreases-loop-p l = l.p
