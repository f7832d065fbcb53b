use mathlib.Core.Path.{◌∙◌}
use Rattle.joins.proofs.Partners.{level-after}
use Rattle.joins.proofs.pairing.share_level.Goals as goal

pub returns : goal.returns
returns c =
    let s = c in
    c.sum_at.ensures ∙ level-after s.args.ts.now s.args.i c.if-i-eq0.false
