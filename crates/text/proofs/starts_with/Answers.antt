use mathlib.Core.Path.{◌∙◌}
use Rattle.text.proofs.Fronts.{starts_with-is}
use Rattle.text.proofs.starts_with.Goals as goal

pub returns : goal.returns
returns c = c.starts_with.ensures.value ∙ starts_with-is c.args.front.now c.args.text.now
