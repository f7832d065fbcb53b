use native.Mathlib.Omega.{arith}
use Rattle.nogoods.proofs.Indexing.{blank-index}
use Rattle.checker.proofs.judging.check_proof.Goals as goal

pub check_within-requires : goal.check_within-requires
check_within-requires c = let p = c.requires in record { limit = omega arith; program = p.program; empty = p.empty; cells = blank-index 1 }
