use Rattle.std.proofs.Common.{◌≡◌, ◌<◌, drop}
use Rattle.heads.specs.Heads.{hash_from, hashes}
use Rattle.heads.proofs.hash_of.Given as goal

abbrev pub invariant-loop-literal : goal.invariant-loop-literal
invariant-loop-literal l = (l.h < hashes) × (hash_from l.h (drop l.literal-index l.literals) ≡ hash_from 0 l.literals)
