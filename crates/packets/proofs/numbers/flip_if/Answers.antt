-- `packets::numbers::flip_if` meets its contract.
-- Assumes nothing.
use Rattle.packets.proofs.numbers.flip_if.Goals as goal

pub returns-then-negative : goal.returns-then-negative
returns-then-negative c = rw c.if-negative.true
