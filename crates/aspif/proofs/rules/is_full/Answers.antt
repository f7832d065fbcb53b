use borrow.Author.Rules.{rules}
use Rattle.aspif.proofs.rules.is_full.Goals as goal

pub returns : goal.returns
returns c = search rules
