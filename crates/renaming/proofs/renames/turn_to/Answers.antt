use borrow.Author.Tests.{le-ltb, lt-ltb}
use Rattle.words.specs.Limits.{entries}
use Rattle.renaming.proofs.renames.turn_to.Goals as goal

pub returns-then-cursor-gt-ENTRIES : goal.returns-then-cursor-gt-ENTRIES
returns-then-cursor-gt-ENTRIES c = rw (lt-ltb entries _ c.if-cursor-gt-ENTRIES.true)

pub returns : goal.returns
returns c = rw (le-ltb entries _ c.if-cursor-gt-ENTRIES.false)
