use mathlib.Core.Path.{sym, ◌∙◌}
use mathlib.Core.Bool.{true≢false}
use Rattle.heads.proofs.completes.Goals as goal

pub returns-then-kept-name : goal.returns-then-kept-name
returns-then-kept-name c = λ e. (sym c.is_normal_with.ensures ∙ e, c.if-kept-name.true)

pub returns : goal.returns
returns c = λ e. absurd (true≢false (sym e))
