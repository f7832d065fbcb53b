use borrow.Author.Rules.{rules}
use Rattle.nogoods.specs.Index.{start_of}
use Rattle.nogoods.proofs.chains.start_of.Goals as goal

pub returns-clause-value : goal.returns-clause-value
unfolding start_of
returns-clause-value c = search rules
