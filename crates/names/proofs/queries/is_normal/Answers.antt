use mathlib.Core.Path.{sym, ◌∙◌}
use Rattle.names.proofs.queries.is_normal.Goals as goal

pub returns-in-Normal : goal.returns-in-Normal
returns-in-Normal c = rw (sym c.kind.ensures ∙ c.in-Normal.is)

pub returns-in-Choice : goal.returns-in-Choice
returns-in-Choice c = rw (sym c.kind.ensures ∙ c.in-Choice.is)
