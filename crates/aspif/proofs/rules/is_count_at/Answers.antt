use borrow.Author.Tests.{lt-ltb, le-ltb}
use Rattle.aspif.proofs.rules.is_count_at.Goals as goal

pub returns-then-i-count : goal.returns-then-i-count
returns-then-i-count c = rw (lt-ltb _ _ c.if-i-count.true) c.is_count.ensures

pub returns : goal.returns
returns c = rw (le-ltb _ _ c.if-i-count.false)
