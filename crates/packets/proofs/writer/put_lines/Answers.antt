-- `packets::writer::put_lines` meets its contract. After a turn the steps before the position are put.
-- Assumes nothing.
use mathlib.Core.Path.{◌≡◌, refl, sym, ap, ◌∙◌}
use Rattle.std.specs.Prelude.{Ok, Some}
use Prim.Native.Nat.{◌≤◌, max}
use native.Mathlib.Omega.{arith}
use lib.IntN.{ℤ, pos}
use lib.ListN.{length, take, length-replicate}
use lib.Seq.{length-take-le}
use Rattle.words.specs.Limits.{most_numbers}
use Rattle.text.specs.Classes.{byte_classes}
use Rattle.aspif.proofs.Passes.{ok_in}
use Rattle.drupe.specs.Lines.{line, line_at}
use Rattle.drupe.proofs.Lines.{passed-line}
use Rattle.drupe.proofs.Rows.{into-told, into-room}
use Rattle.packets.proofs.Writes.{stepping-start, stepping-on, stepping-end, stepping-refused}
use borrow.Author.Rules.{rules}
use Rattle.packets.proofs.writer.put_lines.Goals as goal
use Rattle.packets.proofs.writer.put_lines.Goals.{In-Some}

pub lines-init : goal.lines-init
lines-init c = (stepping-start _ _ c.requires.0, length-replicate {A = ℤ} most_numbers (pos 0), length-replicate {A = ℤ} most_numbers (pos 0))

-- the line that was read
is : (c : In-Some) → c.step_at.result ≡ Ok (Some c.in-Some.line)
is c = ok_in c.in-Ok.is c.in-Some.is

module _ (c : In-Some) where
  there : line_at c.args.text.now c.lines.position ≡ line c.in-Some.line.letter (take c.in-Some.line.count c.step_at.new.numbers) c.in-Some.line.next
  there = into-told c.step_at.ensures (is c)

  -- its numbers are within the row
  room : (c.in-Some.line.count ≤ most_numbers) × (c.in-Some.line.count ≤ length c.step_at.new.numbers)
  room =
      let u = into-room c.step_at.ensures (is c) in
      (u.2, omega (arith, u.2, c.step_at.auto.numbers, c.lines.invariant.1))

pub slice_bounds-step_at-end : goal.slice_bounds-step_at-end
slice_bounds-step_at-end c = let p = c.lines.invariant.1 in search rules

pub slice_bounds-step_at-end-in-lines : goal.slice_bounds-step_at-end-in-lines
slice_bounds-step_at-end-in-lines c = let p = c.lines.invariant.2 in search rules

pub step_at-requires : goal.step_at-requires
unfolding byte_classes
step_at-requires c = let i = c.lines.invariant in record { classes_value = refl; rows = (i.1, i.2) }

pub returns-in_default : goal.returns-in_default
returns-in_default c = stepping-end c.lines.invariant.0 (into-told c.step_at.ensures (ok_in c.in-Ok.is c.in_default.is))

pub returns-in-Err : goal.returns-in-Err
returns-in-Err c = stepping-refused c.lines.invariant.0 _ (into-told c.step_at.ensures c.in-Err.is)

pub slice_bounds-numbers-end : goal.slice_bounds-numbers-end
slice_bounds-numbers-end c = (room (goal.at.slice_bounds-numbers-end c).In-Some).1

pub slice_bounds-put_step-end : goal.slice_bounds-put_step-end
slice_bounds-put_step-end c = sym (length-take-le _ _ (room (goal.at.slice_bounds-put_step-end c).In-Some).1)

pub put_step-end-requires : goal.put_step-end-requires
put_step-end-requires c =
    let d = (goal.at.put_step-end-requires c).In-Some in
    let S = d.lines.invariant.0 in
    (rw (length-take-le _ _ (room d).1) (room d).0, omega (arith, S.near, S.within, d.requires.0, d.requires.1))

pub slice_bounds-numbers-end-in-lines : goal.slice_bounds-numbers-end-in-lines
slice_bounds-numbers-end-in-lines c = (room (goal.at.slice_bounds-numbers-end-in-lines c).In-Some).1

pub slice_bounds-largest_variable-end : goal.slice_bounds-largest_variable-end
slice_bounds-largest_variable-end c = sym (length-take-le _ _ (room (goal.at.slice_bounds-largest_variable-end c).In-Some).1)

pub overflow_add-steps : goal.overflow_add-steps
overflow_add-steps c =
    let d = (goal.at.overflow_add-steps c).In-Some in
    let S = d.lines.invariant.0 in
    record { fits = omega (arith, S.few, S.within, d.requires.0) }

pub lines-smaller : goal.lines-smaller
lines-smaller c =
    let d = (goal.at.lines-smaller c).In-Some in
    let u = passed-line d.args.text.now d.lines.position (there d) in
    omega (arith, u.0, u.1)

pub lines-preserved : goal.lines-preserved
lines-preserved c =
    let d = (goal.at.lines-preserved c).In-Some in
    let p = c.put_step-end.ensures in
    let i = d.lines.invariant in
    let k = d.step_at.auto in
    (stepping-on i.0 (there d) p.put p.upper_bound (c.larger-top.ensures ∙ ap (max d.lines.top) c.largest_variable.ensures), k.numbers ∙ i.1, k.sorted ∙ i.2)
