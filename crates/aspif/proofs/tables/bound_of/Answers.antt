use Rattle.aspif.specs.Tables.{bound_at}
use Rattle.aspif.proofs.tables.bound_of.Goals as goal

pub returns : goal.returns
unfolding bound_at
returns c = c.size_at.ensures
