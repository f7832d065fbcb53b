-- `drupe::read_line` meets its contract. Question 21 is put first; the row is zeros before the line is read into it.
-- Assumes nothing.
use Rattle.text.specs.Classes.{byte_classes}
use Rattle.drupe.proofs.Lines.{reads_of}
use Rattle.drupe.proofs.Rows.{numbers-read}
use borrow.Author.Rules.{rules}
use Rattle.drupe.proofs.read_line.Goals as goal

pub step_at-answer-requires-clause-classes_value : goal.step_at-answer-requires-clause-classes_value
unfolding byte_classes
step_at-answer-requires-clause-classes_value c = search rules

pub returns-in-Ok-Some : goal.returns-in-Ok-Some
returns-in-Ok-Some c =
    let i = c.step_at-answer.ensures in
    reads_of c.if-text-gt-LONGEST.false i.answer (numbers-read c.args.text.now c.args.position c.in-Ok-Some.field-0-0 i (search rules))
