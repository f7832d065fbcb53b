use mathlib.Core.Path.{◌≡◌, sym, ap, ◌∙◌}
use mathlib.Core.List.{List, [], ◌∷◌, ◌++◌}
use Prim.Native.Nat.{◌+◌}
use native.Mathlib.Omega.{arith}
use lib.IntN.{ℤ, pos}
use lib.ListN.{length, take, set, replicate, length-take, length-append}
use mir.Syntax.{w32}
use mir.Val.{to_z, of_z}
use mir.Facts.{to_z-of_z}
use Rattle.words.specs.Limits.{most_numbers}
use Rattle.text.specs.Line.{any_outside}
use Rattle.text.specs.declared.Letter.TheVariants.{Addition}
use Rattle.renaming.proofs.Written.{one-long, put-row, inside-end}
use Rattle.renaming.proofs.lines.write_widened.Goals as goal
use Rattle.renaming.proofs.lines.write_widened.Goals.{After-copy}

pub returns-then-count-ge-MOST_NUMBERS : goal.returns-then-count-ge-MOST_NUMBERS
returns-then-count-ge-MOST_NUMBERS c =
    let s = c in
    let a = s.args in
    let l = a.numbers.now in
    one-long Addition (l ++ (a.x ∷ [])) (inside-end l a.x s.requires.numbers s.requires.literal) a.output.now a.output.now a.at
    (rw (length-append l (a.x ∷ [])) (omega (arith, c.if-count-ge-MOST_NUMBERS.true)))

-- the row, once the literal is put
module _ (c : After-copy) where
  abbrev line : List ℤ
  line = c.args.numbers.now

  abbrev literal : ℤ
  literal = c.args.x

  abbrev row : List ℤ
  row = set c.copy.new.destination (length line) (to_z w32 (of_z w32 literal))

  row_is : take (length line + 1) row ≡ line ++ (literal ∷ [])
  row_is =
      put-row line (replicate most_numbers (pos 0)) literal c.copy.ensures (to_z-of_z c.ranges.x)
      (omega (arith, c.if-count-ge-MOST_NUMBERS.false))

  row-length : length (take (length line + 1) row) ≡ length line + 1
  row-length = ap length row_is ∙ length-append line (literal ∷ [])

pub slice_bounds-row-end : goal.slice_bounds-row-end
slice_bounds-row-end c = omega (arith, row-length (goal.at.slice_bounds-row-end c).After-copy, length-take (length (line (goal.at.slice_bounds-row-end c).After-copy) + 1) (row (goal.at.slice_bounds-row-end c).After-copy))

pub slice_bounds-write_line-end : goal.slice_bounds-write_line-end
slice_bounds-write_line-end c = sym (row-length (goal.at.slice_bounds-write_line-end c).After-copy)

pub write_line-requires : goal.write_line-requires
write_line-requires c = let k = (goal.at.write_line-requires c).After-copy in
    let s = c in record { at = s.requires.at; numbers = ap any_outside (row_is k) ∙ inside-end (line k) (literal k) s.requires.numbers s.requires.literal }

pub returns : goal.returns
returns c = rw (row_is (goal.at.returns c).After-copy) at c.write_line.ensures
