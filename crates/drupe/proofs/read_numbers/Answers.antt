-- `drupe::read_numbers` meets its contract. What `text::read_line` tells of the line, and the tests in their order.
-- Assumes nothing.
use Rattle.std.proofs.Common.{◌≡◌, ◌+◌, ◌-◌, length, sym, ◌∙◌, arith}
use lib.ListN.{take}
use lib.Seq.{length-take-le, take_at}
use Rattle.text.proofs.Lines.{numbered}
use Rattle.drupe.proofs.Lines.{outside-before}
use Rattle.drupe.proofs.Rows.{row_written, row_before, into-refused, into-same, into-asked}
use Rattle.drupe.proofs.read_numbers.Goals as goal
use Rattle.drupe.specs.declared.ProofFault.TheVariants.{OutOfRange}

pub returns-then-outside : goal.returns-then-outside
returns-then-outside c =
    let f = numbered c.read_line.ensures c.in-Some.is in
    let shut = sym f.shut ∙ c.if-not-closed.false in
    into-refused OutOfRange (rw (f.is, shut, outside-before f.list shut ∙ sym f.large ∙ c.if-outside.true))

-- the part of the row that is lent is the line's numbers before the closing 0
pub ask-requires-clause-sizes : goal.ask-requires-clause-sizes
ask-requires-clause-sizes c =
    let f = numbered c.read_line.ensures c.in-Some.is in
    let shut = sym f.shut ∙ c.if-not-closed.false in
    let inside = sym f.large ∙ c.if-outside.false in
    let kept = row_before f inside shut (omega (arith, c.requires.rows.0)) in
    let l = length-take-le (length f.list - 1) f.list (omega arith) in
    rw kept (outside-before f.list shut ∙ inside, rw l (omega (arith, f.long)))

pub returns : goal.returns
returns c =
    let f = numbered c.read_line.ensures c.in-Some.is in
    let shut = sym f.shut ∙ c.if-not-closed.false in
    let inside = sym f.large ∙ c.if-outside.false in
    let kept = row_before f inside shut (omega (arith, c.requires.rows.0)) in
    let a = c.args in
    let zs = take (length f.list - 1) f.list in
    let l = length-take-le (length f.list - 1) f.list (omega arith) in
    let m = length-take-le (c.in-Some.line.count - 1) a.sorted.now (omega (arith, c.requires.rows.1)) in
    let k : length c.ask.new.sorted ≡ length zs = omega (arith, c.ask.auto.sorted, l, m, f.long) in
    into-same (rw (f.is, shut))
    (into-asked a.letter zs (a.from + c.in-Some.line.next) (rw kept at c.ask.ensures.answer) (omega (arith, l, f.long, c.requires.rows.0)) (row_written f inside shut)
    (take_at _ _ _ k ∙ rw kept at c.ask.ensures.sorted))
