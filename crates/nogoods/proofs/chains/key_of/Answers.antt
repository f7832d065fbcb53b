use borrow.Author.Rules.{rules}
use Rattle.nogoods.specs.Index.{key_of}
use Rattle.nogoods.proofs.chains.key_of.Goals as goal

pub returns-clause-value : goal.returns-clause-value
unfolding key_of
returns-clause-value c = search rules
