use borrow.Author.Rules.{rules}
use Rattle.nogoods.specs.Index.{scale_of}
use Rattle.nogoods.proofs.chains.scale_of.Goals as goal

pub returns-clause-value : goal.returns-clause-value
unfolding scale_of
returns-clause-value c = search rules
