use mathlib.Core.Path.{◌≡◌}
use Prim.Native.Nat.{◌<◌}
use lib.ListN.{drop}
use Rattle.nogoods.specs.Index.{hashes, hash_from}
use Rattle.nogoods.proofs.chains.hash_of.Given as goal

abbrev pub invariant-loop-word : goal.invariant-loop-word
invariant-loop-word l = (l.h < hashes) × (hash_from l.h (drop l.word-index l.literals) ≡ hash_from 0 l.literals)
