use mathlib.Core.Path.{◌∙◌}
use native.Mathlib.Omega.{arith}
use borrow.Author.Tests.{lt-ltb, le-leb}
use lib.IntN.{pos}
use lib.ListN.{get_or}
use Rattle.std.proofs.Common.{rules}
use Rattle.words.specs.Limits.{largest}
use Rattle.words.proofs.Words.{back}
use Rattle.aspif.proofs.Weighings.{paired_two}
use Rattle.aspif.proofs.tables.pairs_ascend.Goals as goal

pub loop-rest-preserved : goal.loop-rest-preserved
loop-rest-preserved c =
    let ws = c.loop-rest.rest.now in
    let v = rw (back (get_or ws 0 (pos 0)) (search rules)) at c.variable_of-v.ensures in
    c.loop-rest.invariant ∙ rw (paired_two ws c.in-len2-up.len_at_least, ← v, lt-ltb c.loop-rest.low c.variable_of-v.result (omega arith), le-leb c.variable_of-v.result largest (omega arith))
