use mathlib.Core.Path.{sym, ◌∙◌}
use lib.IntN.{pos}
use lib.ListN.{get_or}
use Rattle.std.proofs.Common.{rules}
use Rattle.words.proofs.Words.{back}
use Rattle.aspif.proofs.Weighings.{weights_two, weights_end}
use Rattle.aspif.proofs.tables.all_weights.Goals as goal

pub returns-then-not-is_weight : goal.returns-then-not-is_weight
returns-then-not-is_weight c =
    let ws = c.loop-rest.rest.now in
    let w = rw (back (get_or ws 1 (pos 0)) (search rules)) at c.is_weight.ensures in
    sym (c.loop-rest.invariant ∙ weights_two ws c.in-len2-up.len_at_least ∙ rw (sym w ∙ c.if-not-is_weight.true))

pub loop-rest-preserved : goal.loop-rest-preserved
loop-rest-preserved c =
    let ws = c.loop-rest.rest.now in
    let w = rw (back (get_or ws 1 (pos 0)) (search rules)) at c.is_weight.ensures in
    c.loop-rest.invariant ∙ weights_two ws c.in-len2-up.len_at_least ∙ rw (sym w ∙ c.if-not-is_weight.false)

pub returns : goal.returns
returns c = c.is_empty.ensures ∙ weights_end c.loop-rest.rest.now c.in_default.len_below ∙ sym c.loop-rest.invariant
