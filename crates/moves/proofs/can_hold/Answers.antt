-- `moves::can_hold` meets its contract.
-- Assumes nothing.
use Rattle.moves.proofs.Answers.{holds-one, holds-two}
use Rattle.moves.proofs.can_hold.Goals as goal

pub returns-in-One : goal.returns-in-One
returns-in-One c = let b = c in holds-one b.args.top _ b.args.plain b.limit_of.ensures c.in-One.is

pub returns-in-Two : goal.returns-in-Two
returns-in-Two c = let b = c in holds-two b.args.top _ b.args.plain b.limit_of.ensures c.in-Two.is
