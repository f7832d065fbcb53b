use borrow.Author.Rules.{rules}
use Rattle.nogoods.specs.Index.{mixed}
use Rattle.nogoods.proofs.chains.mix.Goals as goal

pub returns-clause-value : goal.returns-clause-value
unfolding mixed
returns-clause-value c = search rules
