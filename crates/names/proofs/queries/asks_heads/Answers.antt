use Rattle.names.proofs.queries.asks_heads.Goals as goal

pub returns-in-External : goal.returns-in-External
returns-in-External c = rw c.in-External.is (rw c.heads-in-External.ensures at c.any_inside.ensures)
