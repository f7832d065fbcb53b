-- `text::more_digits` meets its contract.
-- Assumes nothing.
use mathlib.Core.Path.{sym, ◌∙◌}
use native.Mathlib.Omega.{arith}
use Rattle.text.proofs.Turns.{class-in, digit-on, digits-end, digits-out}
use Rattle.text.proofs.more_digits.Goals as goal

pub returns-in_default : goal.returns-in_default
returns-in_default c = let s = c.args.text.now in
    let l = c.loop-i in
    let at = class-in s l.i c.loop-i-test.true in record {
      scanned = λ neg n seen row. l.invariant neg n seen row ∙ digits-end s l.i n seen row neg l.size (λ d e. c.in_default.not-Digit d (c.class_of.ensures ∙ sym at ∙ e));
      after = l.auto.i;
    }

pub loop-i-preserved : goal.loop-i-preserved
loop-i-preserved c =
    let s = c.args.text.now in
    let l = c.loop-i in
    let at = class-in s l.i c.loop-i-test.true in
    λ neg n seen row. rw c.more-size.ensures (l.invariant neg n seen row ∙ digit-on s l.i n seen row neg l.size (at ∙ sym c.class_of.ensures ∙ c.in-Digit.is))

pub returns : goal.returns
returns c = let s = c.args.text.now in
    let l = c.loop-i in record {
      scanned = λ neg n seen row. l.invariant neg n seen row ∙ digits-out s l.i c.max.result n seen row neg l.size c.loop-i-test.false (omega (arith, c.max.ensures));
      after = omega (arith, c.max.ensures);
    }
