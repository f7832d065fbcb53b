-- `drupe::read_into` meets its contract. The end, past it, or the line that begins there.
-- Assumes nothing.
use borrow.Author.Rules.{part_to_end}
use Rattle.drupe.proofs.Lines.{at-line}
use Rattle.drupe.proofs.Rows.{into-same, into-text}
use Rattle.drupe.proofs.read_into.Goals as goal

pub returns : goal.returns
returns c =
    let a = c.args in
    into-text (into-same (at-line a.text.now a.position c.if-position-text.false) (rw (part_to_end a.text.now a.position) at c.read_letter.ensures))
