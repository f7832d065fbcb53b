use lib.ListN.{length}
use Rattle.splits.proofs.Answers.{left-nothing}
use Rattle.splits.proofs.refuse.Goals as goal

pub returns : goal.returns
returns c =
    let a = c.args in
    left-nothing (length a.table.now) (length a.store.now) (length a.output.now) c.zero_all.ensures c.zero_all-2.ensures
    c.zero_all-3.ensures
