use Rattle.aspif.proofs.Cursors.{sound-rules}
use Rattle.marks.specs.Marks.{marked}
use Rattle.answer_set.proofs.Giving.{least-given}
use Rattle.answer_set.proofs.worklist.mark_least.Goals as goal

pub close-requires : goal.close-requires
close-requires c = sound-rules _ _ c.requires.rules_value

pub returns : goal.returns
returns c =
    let a = c.args in
    let p = c.requires in
    least-given (marked a.inside.now) a.table.now a.rules (sound-rules _ _ p.rules_value) p.most_value p.marks_len.0 p.marks_len.1 c.follow.ensures c.close.ensures
