use mathlib.Core.Path.{ap}
use lib.Dec.{eqb}
use Rattle.heads.proofs.is_covered.Goals as goal

pub returns : goal.returns
returns c = ap (λ n. eqb n 1) c.word_of.ensures
