-- `packets::writer::put_steps` meets its contract.
-- Assumes nothing.
use Rattle.packets.proofs.Writes.{stepping-long}
use Rattle.packets.proofs.writer.put_steps.Goals as goal

pub returns-then-text-gt-LONGEST : goal.returns-then-text-gt-LONGEST
returns-then-text-gt-LONGEST c = stepping-long _ _ _ c.if-text-gt-LONGEST.true
