-- `moves::measure` meets its contract.
-- Assumes nothing.
use native.Mathlib.Omega.{arith}
use Rattle.text.specs.Classes.{byte_classes}
use Rattle.packets.proofs.Given.{no-rules, no_steps}
use Rattle.moves.proofs.Answers.{not-told, BothRead, both_read, too_large, words-room, pair-told}
use borrow.Author.Rules.{rules}
use Rattle.moves.proofs.measure.Goals as goal
use Rattle.moves.proofs.measure.Goals.{After-larger-top}

pub read_steps-requires : goal.read_steps-requires
unfolding byte_classes
read_steps-requires c = record { bytes_value = search rules; classes_value = search rules }

-- both parts are read
module _ (c : After-larger-top) where
  read : BothRead c.args.from c.args.count c.args.words.now c.args.steps c.args.bytes.now c.in_ok-rules.rules.rules c.in_ok-rules.rules.words c.larger-top.result c.in_ok-rules.rules.plain
  read = both_read _ _ _ _ _ _ _ _ _ c.in_ok-rules.was c.read_rules.ensures c.in_ok-text.was c.read_steps.ensures c.larger-top.ensures

pub returns-in_err-text : goal.returns-in_err-text
returns-in_err-text c =
    let a = c.args in
    rw c.from_residual.ensures (not-told a.to (no_steps a.from a.count a.words.now a.steps a.bytes.now _ _ c.in_err-text.was c.read_steps.ensures))

pub returns-in_err-rules : goal.returns-in_err-rules
returns-in_err-rules c =
    let a = c.args in
    rw c.from_residual-in_err-rules.ensures (not-told a.to (no-rules a.from a.count a.words.now a.steps a.bytes.now _ _ c.in_err-rules.was c.read_rules.ensures))

pub returns-then-limit_of-top : goal.returns-then-limit_of-top
returns-then-limit_of-top c = too_large c.args.to (read (goal.at.returns-then-limit_of-top c).After-larger-top) (omega (arith, c.if-limit_of-top.true, c.limit_of.ensures))

pub overflow_sub-result : goal.overflow_sub-result
overflow_sub-result c = (words-room c.args.to (read (goal.at.overflow_sub-result c).After-larger-top) c.fewer_in.ensures).0

pub overflow_mul-result : goal.overflow_mul-result
overflow_mul-result c =
    let r = words-room c.args.to (read (goal.at.overflow_mul-result c).After-larger-top) c.fewer_in.ensures in
    record { fits = omega (arith, r.0, r.1) }

pub returns : goal.returns
returns c =
    pair-told c.args.to (read (goal.at.returns c).After-larger-top) c.fewer_in.ensures (omega (arith, c.if-limit_of-top.false, c.limit_of.ensures)) c.can_hold.ensures
