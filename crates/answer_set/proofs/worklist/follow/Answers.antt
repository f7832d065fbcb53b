use Rattle.aspif.proofs.Cursors.{few-rules}
use Rattle.answer_set.specs.Private.{nothing}
use Rattle.answer_set.proofs.worklist.follow.Goals as goal

pub link_all-requires : goal.link_all-requires
link_all-requires c = few-rules _ _ c.requires

pub work_off-requires-clause-rules_le_most_rules : goal.work_off-requires-clause-rules_le_most_rules
work_off-requires-clause-rules_le_most_rules c = few-rules _ _ c.requires

pub returns-then-rules-lt-FEW : goal.returns-then-rules-lt-FEW
returns-then-rules-lt-FEW c = nothing
