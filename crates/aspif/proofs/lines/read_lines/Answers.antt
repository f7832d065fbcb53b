use native.Mathlib.Omega.{arith}
use Rattle.words.proofs.Parts.{tail_of}
use Rattle.aspif.proofs.Passes.{stands-start, lines-refused, lines-ended, lines-added, ok_in}
use Rattle.aspif.proofs.lines.read_lines.Goals as goal

-- The turn is told of the text and the words that are left, as they are lent to the call.

pub lines-init : goal.lines-init
lines-init c = stands-start _ _ c.requires.header_in_bounds

pub returns-in-Err : goal.returns-in-Err
returns-in-Err c = lines-refused c.lines.invariant (rw (tail_of c.lines.at c.args.text.now, tail_of c.lines.used c.lines.table) at c.read_rule.ensures) c.in-Err.is

pub returns-in_default : goal.returns-in_default
returns-in_default c = lines-ended c.lines.invariant (rw (tail_of c.lines.at c.args.text.now, tail_of c.lines.used c.lines.table) at c.read_rule.ensures) (ok_in c.in-Ok.is c.in_default.is)

pub overflow_add-at : goal.overflow_add-at
overflow_add-at c =
    let o = lines-added c.lines.invariant (rw (tail_of c.lines.at c.args.text.now, tail_of c.lines.used c.lines.table) at c.read_rule.ensures) (ok_in c.in-Ok.is c.in-Some.is) in
    record { fits = omega (arith, o.text-left) }

pub overflow_add-used : goal.overflow_add-used
overflow_add-used c =
    let o = lines-added c.lines.invariant (rw (tail_of c.lines.at c.args.text.now, tail_of c.lines.used c.lines.table) at c.read_rule.ensures) (ok_in c.in-Ok.is c.in-Some.is) in
    record { fits = omega (arith, o.words_left) }

pub lines-smaller : goal.lines-smaller
lines-smaller c =
    let o = lines-added c.lines.invariant (rw (tail_of c.lines.at c.args.text.now, tail_of c.lines.used c.lines.table) at c.read_rule.ensures) (ok_in c.in-Ok.is c.in-Some.is) in
    omega (arith, o.text-left, o.bytes)

pub lines-preserved : goal.lines-preserved
lines-preserved c =
    let o = lines-added c.lines.invariant (rw (tail_of c.lines.at c.args.text.now, tail_of c.lines.used c.lines.table) at c.read_rule.ensures) (ok_in c.in-Ok.is c.in-Some.is) in
    rw c.max-atoms.ensures o.stands
