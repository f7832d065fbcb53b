use mathlib.Core.Path.{ap, ◌∙◌}
use lib.ListN.{length}
use Rattle.std.specs.Option.{unwrap_or}
use Rattle.totalizer.proofs.Below.{below-found}
use Rattle.totalizer.proofs.levels.below_of.Goals as goal

pub returns : goal.returns
returns c =
    let us = c.args.sums.now in
    c.unwrap_or.ensures ∙ ap (λ o. unwrap_or o (length us)) c.first_reaching.ensures ∙ below-found c.args.need us
