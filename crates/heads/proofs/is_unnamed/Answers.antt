use mathlib.Core.Path.{ap, ◌∙◌}
use lib.Dec.{eqb}
use Rattle.words.specs.Lists.{any}
use Rattle.words.specs.Literals.{same_list}
use Rattle.aspif.specs.Rules.{expand}
use Rattle.names.proofs.Asked.{no_name}
use Rattle.heads.proofs.is_unnamed.Goals as goal

pub returns : goal.returns
returns c =
    let body = c.args.body.now in
    λ ws H called K. ap (λ n. eqb n 0) (c.body_name.ensures ws H called K) ∙ no_name (any (λ x. same_list body x.body) (expand ws)) (called body)
