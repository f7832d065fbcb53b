-- `packets::writer::answer_of` meets its contract.
-- Assumes nothing.
use Rattle.packets.proofs.writer.answer_of.Goals as goal

pub returns-then-fits : goal.returns-then-fits
returns-then-fits c = rw (c.if-good.true, c.if-fits.true)
