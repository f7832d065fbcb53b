use mathlib.Core.Path.{sym, ◌∙◌}
use Rattle.checker.proofs.judging.conclude.Goals as goal

pub returns-then-has_empty : goal.returns-then-has_empty
returns-then-has_empty c = λ b H. rw (c.count.ensures b H, sym (c.has_empty.ensures b H) ∙ c.if-has_empty.true)

pub returns : goal.returns
returns c = λ b H. rw (c.count.ensures b H, sym (c.has_empty.ensures b H) ∙ c.if-has_empty.false)
