use mir.Syntax.{w32}
use mathlib.Core.Path.{◌≡◌, sym, ap, ◌∙◌}
use mathlib.Core.Bool.{Bool, false, not, ◌&&◌, cond}
use mathlib.Core.List.{List, map}
use Prim.Native.Nat.{ℕ}
use lib.IntN.{ℤ}
use lib.ListN.{get_or}
use mir.Facts.{to_z-of_z}
use Rattle.text.specs.Line.{any_outside}
use Rattle.text.specs.declared.Letter.TheVariants.{Extension}
use Rattle.merging.specs.Merge.{renamed}
use Rattle.renaming.specs.Standing.{names_added, is_gone}
use Rattle.renaming.proofs.Written.{none_written}
use Rattle.renaming.proofs.Walk.{renamed-inside, stands-not, stands-widened, stands-line}
use Rattle.renaming.proofs.lines.write_standing.Goals as goal
use Rattle.renaming.proofs.lines.write_standing.Goals.{After-is_addition}

pub returns-then-is_gone : goal.returns-then-is_gone
returns-then-is_gone c =
    let s = c in
    let a = s.args in
    rw (stands-not a.x (λ v. get_or a.new.now v 0) a.shared.now a.has_body a.has_constraint a.name a.letter a.numbers.now (sym c.is_gone.ensures ∙ c.if-is_gone.true))
    (none_written a.output.now a.at s.requires.at)

-- a line that stands
module _ (c : After-is_addition) where
  abbrev new : ℕ → ℕ
  new v = get_or c.args.new.now v 0

  abbrev line : List ℤ
  line = c.rename.new.numbers

  line-is : line ≡ map (renamed new) c.args.numbers.now
  line-is = c.rename.ensures

  inside : any_outside line ≡ false
  inside = rw line-is (renamed-inside new c.requires.new c.args.numbers.now)

  stays : (let a = c.args in is_gone a.shared.now a.has_constraint a.name a.letter a.numbers.now ≡ false)
  stays = sym c.is_gone.ensures ∙ c.if-is_gone.false

  lacking : (let a = c.args in c.names_added.result ≡ names_added a.x a.letter a.numbers.now)
  lacking = c.names_added.ensures ∙ ap (λ (x : ℤ). names_added x c.args.letter c.args.numbers.now) (to_z-of_z c.ranges.x)

pub write_addition-requires : goal.write_addition-requires
write_addition-requires c = let k = (goal.at.write_addition-requires c).After-is_addition in
    record { at = k.requires.at; numbers = inside k; literal = rw (to_z-of_z k.ranges.x) k.requires.literal }

pub returns-then-is_addition : goal.returns-then-is_addition
returns-then-is_addition c =
    let k = (goal.at.returns-then-is_addition c).After-is_addition in
    let a = k.args in
    rw (stands-widened a.x (new k) a.shared.now a.has_body a.has_constraint a.name a.letter a.numbers.now (stays k) (sym k.is_addition.ensures ∙ c.if-is_addition.true))
    (rw (to_z-of_z {w = w32} k.ranges.x, line-is k) at c.write_addition.ensures)

pub write_line-requires : goal.write_line-requires
write_line-requires c = let k = (goal.at.write_line-requires c).After-is_addition in record { at = k.requires.at; numbers = inside k }

pub returns : goal.returns
returns c =
    let k = (goal.at.returns c).After-is_addition in
    let a = k.args in
    rw (stands-line a.x (new k) a.shared.now a.has_body a.has_constraint a.name a.letter a.numbers.now (stays k) (sym k.is_addition.ensures ∙ c.if-is_addition.false)
    (c.letter_of.ensures ∙ ap (λ (t : Bool). cond (t && not a.has_body) Extension a.letter) (lacking k)))
    (rw (line-is k) at c.write_line.ensures)
