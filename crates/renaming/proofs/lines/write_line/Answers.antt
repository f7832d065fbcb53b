use Rattle.renaming.proofs.Written.{one-long, one_written, one-past}
use Rattle.renaming.proofs.lines.write_line.Goals as goal

pub returns-then-numbers-gt-MOST_NUMBERS : goal.returns-then-numbers-gt-MOST_NUMBERS
returns-then-numbers-gt-MOST_NUMBERS c =
    let s = c in
    let a = s.args in
    one-long a.letter a.numbers.now s.requires.numbers a.output.now a.output.now a.at c.if-numbers-gt-MOST_NUMBERS.true

pub returns-then-end-gt-LONGEST : goal.returns-then-end-gt-LONGEST
returns-then-end-gt-LONGEST c =
    let s = c in
    let a = s.args in
    let w = c in
    one-past a.letter a.numbers.now s.requires.numbers w.if-numbers-gt-MOST_NUMBERS.false w.write_step-end.ensures.written c.if-end-gt-LONGEST.true

pub returns : goal.returns
returns c =
    let s = c in
    let a = s.args in
    let w = c in
    one_written a.letter a.numbers.now s.requires.numbers w.if-numbers-gt-MOST_NUMBERS.false w.write_step-end.ensures.written c.if-end-gt-LONGEST.false
