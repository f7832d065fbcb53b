use mathlib.Core.Path.{sym, ◌∙◌}
use lib.IntN.{pos}
use lib.ListN.{get_or}
use mir.Facts.{to_z-of_z}
use Rattle.std.proofs.Common.{rules}
use Rattle.words.proofs.Lists.{and_left, and_right}
use Rattle.words.proofs.Words.{back}
use Rattle.weights.specs.Weights.{most_weight}
use Rattle.aspif.specs.Rules.{is_weight}
use Rattle.aspif.proofs.PairWords.{up_to}
use Rattle.aspif.proofs.Weighings.{weights_two, paired_two}
use Rattle.aspif.proofs.rules.weight_in.Goals as goal

pub returns-then-is_same : goal.returns-then-is_same
returns-then-is_same c =
    let ws = c.loop-rest.rest.now in
    let n = c.in-len2-up.len_at_least in
    let on = sym (weights_two ws n) ∙ c.loop-rest.invariant.0 in
    let s = rw (to_z-of_z c.ranges.literal, back (get_or ws 0 (pos 0)) (search rules)) at c.is_same.ensures in
    let h = rw (to_z-of_z c.ranges.literal) at c.loop-rest.invariant.1 in
    rw (back (get_or ws 1 (pos 0)) (search rules), h, paired_two ws n, sym s ∙ c.if-is_same.true) (up_to most_weight (get_or ws 1 (pos 0)) (and_left (is_weight (get_or ws 1 (pos 0))) _ on)).0

pub loop-rest-preserved : goal.loop-rest-preserved
loop-rest-preserved c =
    let ws = c.loop-rest.rest.now in
    let n = c.in-len2-up.len_at_least in
    let on = sym (weights_two ws n) ∙ c.loop-rest.invariant.0 in
    let s = rw (back (get_or ws 0 (pos 0)) (search rules)) at c.is_same.ensures in
    (and_right (is_weight (get_or ws 1 (pos 0))) _ on, c.loop-rest.invariant.1 ∙ rw (paired_two ws n, sym s ∙ c.if-is_same.false))
