use mathlib.Core.Path.{◌∙◌}
use Rattle.aspif.proofs.rules.sort_body.Goals as goal

pub returns-then-zero : goal.returns-then-zero
returns-then-zero c = record { sorted = (rw (rw c.contains-zero.ensures at c.if-zero.true), c.sort_distinct-distinct.ensures.sorted.1) }

pub returns-else-zero : goal.returns-else-zero
returns-else-zero c = record { sorted = (c.sort_distinct-distinct.ensures.sorted.0 ∙ rw (rw c.contains-zero.ensures at c.if-zero.false), c.sort_distinct-distinct.ensures.sorted.1) }
