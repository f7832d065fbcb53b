use mathlib.Core.Path.{◌≡◌, refl}
use mathlib.Core.List.{List}
use Rattle.std.specs.Prelude.{Ok, Some}
use Prim.Native.Nat.{◌≤◌}
use native.Mathlib.Omega.{arith}
use lib.IntN.{ℤ}
use lib.ListN.{length, take, get_or}
use mir.Syntax.{w32}
use mir.Val.{to_z, of_z}
use mir.Facts.{to_z-of_z}
use Rattle.aspif.proofs.Passes.{ok_in}
use Rattle.drupe.specs.Lines.{line, line_at}
use Rattle.drupe.proofs.Rows.{into-told, into-room}
use Rattle.renaming.proofs.Walk.{turned-over, turned-on}
use Rattle.renaming.proofs.lines.write_at.Goals as goal
use Rattle.renaming.proofs.lines.write_at.Goals.{In-Some}

-- the line that was read
is : (c : In-Some) → c.step_at.result ≡ Ok (Some c.in-Some.line)
is c = ok_in c.in-Ok.is c.in-Some.is

module _ (c : In-Some) where
  abbrev numbers : List ℤ
  numbers = c.step_at.new.numbers

  there : (line_at c.args.text.now c.args.position ≡ line c.in-Some.line.letter (take c.in-Some.line.count numbers) c.in-Some.line.next)
  there = into-told c.step_at.ensures (is c)

  -- its numbers are within the row
  room : c.in-Some.line.count ≤ length numbers
  room =
      let u = into-room c.step_at.ensures (is c) in
      omega (arith, u.2, c.step_at.auto.numbers, c.requires.rows.0)

  literal : to_z w32 (of_z w32 c.args.x) ≡ c.args.x
  literal = to_z-of_z c.ranges.x

pub write_standing-requires-clause-literal : goal.write_standing-requires-clause-literal
write_standing-requires-clause-literal c = rw (to_z-of_z c.ranges.x) c.requires.literal

pub returns-in_default : goal.returns-in_default
returns-in_default c = rw (into-told c.step_at.ensures (ok_in c.in-Ok.is c.in_default.is)) refl

pub returns-in-Err : goal.returns-in-Err
returns-in-Err c = rw (into-told c.step_at.ensures c.in-Err.is) tt

pub returns-in_err-end : goal.returns-in_err-end
returns-in_err-end c =
    let d = (goal.at.returns-in_err-end c).In-Some in
    let a = c.args in
    turned-over a.x (λ v. get_or a.new.now v 0) a.shared.now a.has_body a.has_constraint a.name a.output.now _ a.at d.in-Some.line.letter (take d.in-Some.line.count (numbers d)) d.in-Some.line.next (there d)
    c.from_residual.ensures c.in_err-end.was (rw (literal d) at c.write_standing.ensures)

pub returns : goal.returns
returns c =
    let d = (goal.at.returns c).In-Some in
    let a = c.args in
    turned-on a.x (λ v. get_or a.new.now v 0) a.shared.now a.has_body a.has_constraint a.name a.output.now _ a.at d.in-Some.line.letter (take d.in-Some.line.count (numbers d)) d.in-Some.line.next _ (there d)
    refl (rw (literal d) at c.name_after-named.ensures) c.in_ok-end.was (rw (literal d) at c.write_standing.ensures)
