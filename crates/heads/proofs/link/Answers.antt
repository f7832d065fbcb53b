use borrow.Author.Rules.{rules}
use Rattle.heads.proofs.link.Goals as goal

pub returns : goal.returns
returns c = search rules
