use mathlib.Core.Path.{◌≡◌, refl}
use mathlib.Core.Bool.{false}
use mathlib.Core.List.{List}
use Rattle.std.specs.Prelude.{None, Ok, Some}
use Prim.Native.Nat.{◌≤◌}
use native.Mathlib.Omega.{arith}
use lib.IntN.{ℤ, pos}
use lib.ListN.{length, take}
use Rattle.words.specs.Literals.{has}
use Rattle.aspif.proofs.Passes.{ok_in}
use Rattle.drupe.specs.Lines.{line_refusal, line, line_at}
use Rattle.drupe.proofs.Lines.{passed-line}
use Rattle.drupe.proofs.Rows.{into-told, into-room}
use Rattle.steps.proofs.Turns.{good-line}
use Rattle.renaming.proofs.Renamed.{turn-bounds}
use Rattle.renaming.proofs.renames.rename_at.Goals as goal
use Rattle.renaming.proofs.renames.rename_at.Goals.{In-Some}

-- the line that was read
is : (c : In-Some) → c.step_at.result ≡ Ok (Some c.in-Some.line)
is c = ok_in c.in-Ok.is c.in-Some.is

module _ (c : In-Some) where
  abbrev numbers : List ℤ
  numbers = c.step_at.new.numbers

  there : (line_at c.args.second.now c.args.at ≡ line c.in-Some.line.letter (take c.in-Some.line.count numbers) c.in-Some.line.next)
  there = into-told c.step_at.ensures (is c)

  -- its numbers are within the row
  room : c.in-Some.line.count ≤ length numbers
  room =
      let u = into-room c.step_at.ensures (is c) in
      let k = c.step_at.auto.numbers in
      let r = c.requires.rows.0 in
      omega (arith, u.2, k, r)

  good : (let zs = take c.in-Some.line.count numbers in (line_refusal c.in-Some.line.letter zs ≡ None) × (has (pos 0) zs ≡ false))
  good = let u = passed-line c.args.second.now c.args.at there in (u.2, u.3)

pub rename_line-from-requires : goal.rename_line-from-requires
rename_line-from-requires c = let d = (goal.at.rename_line-from-requires c).In-Some in record { line = good-line d.in-Some.line.letter (take d.in-Some.line.count (numbers d)) (good d).0 (good d).1; program = c.requires.program; index = c.requires.index; cursor = c.requires.cursor }

pub returns-in_default : goal.returns-in_default
returns-in_default c = record { within = tt; renamed = λ ws H called K. rw (into-told c.step_at.ensures (ok_in c.in-Ok.is c.in_default.is)) (refl, refl, refl) }

pub returns-in-Err : goal.returns-in-Err
returns-in-Err c = record { within = tt; renamed = λ ws H called K. rw (into-told c.step_at.ensures c.in-Err.is) refl }

pub returns : goal.returns
returns c = let t = c in
    let d = (goal.at.returns c).In-Some in
    let u = passed-line c.args.second.now c.args.at (there d) in record { within = turn-bounds _ _ d.in-Some.line.next t.rename_line-from.result u.0 u.1 c.turn_to.ensures; renamed = λ ws H called K. rw (there d) (t.rename_line-from.result, c.turn_to.ensures, t.rename_line-from.ensures ws H called K) }
