use mathlib.Core.Path.{sym, refl, ◌∙◌}
use lib.ListN.{length}
use Rattle.words.specs.Limits.{most_literals}
use Rattle.aspif.specs.Reading.{read_text_within}
use Rattle.long_sums.proofs.Answers.{LongRead, long-read, refused-left, read_left}
use Rattle.long_sums.proofs.split_sums.Goals as goal
use Rattle.long_sums.proofs.split_sums.Goals.{In-Ok}

-- what was read, and what it leaves in the table
told : (c : In-Ok)
    → (let r = c in
    let s = c in
    LongRead (read_text_within most_literals (length s.args.table.now) s.args.text.now) c.in-Ok.field-0.rules c.in-Ok.field-0.atoms r.read_within-read.new.table)
told c =
    let r = c in
    let s = c in
    let l = r.read_within-read.ensures in
    long-read (length s.args.table.now) s.args.text.now _ refl (sym l.answer ∙ c.in-Ok.is) r.read_within-read.new.table l.table r.read_within-read.auto.table

pub split_table-requires : goal.split_table-requires
split_table-requires c = (told (goal.at.split_table-requires c).In-Ok).long

pub returns-in-Err : goal.returns-in-Err
returns-in-Err c =
    let e = c in
    let r = c in
    let a = r.args in
    refused-left (length a.table.now) (length a.output.now) a.text.now a.group r.read_within-read.auto.table _ _
    (sym r.read_within-read.ensures.answer ∙ e.in-Err.is) c.refuse.ensures

pub returns-in-Ok : goal.returns-in-Ok
returns-in-Ok c =
    let e = (goal.at.returns-in-Ok c).In-Ok in
    let r = c in
    let a = r.args in
    read_left (length a.table.now) (length a.output.now) a.text.now a.group r.read_within-read.auto.table _ (told e) c.split_table.ensures
