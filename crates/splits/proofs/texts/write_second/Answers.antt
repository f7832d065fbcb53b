use mathlib.Core.Path.{◌≡◌, refl, subst}
use mathlib.Core.List.{List, []}
use Prim.Native.Nat.{ℕ}
use lib.IntN.{ℤ}
use lib.ListN.{get_or}
use mir.Facts.{to_z-of_z}
use Rattle.merging.specs.Merge.{half}
use Rattle.renaming.specs.Standing.{HalfOf}
use Rattle.renaming.specs.Writing.{Writes}
use Rattle.std.proofs.Common.{Option}
use Rattle.renaming.proofs.Written.{then-written, over-more}
use Rattle.splits.specs.Joined.{HalfText, lines_of, closing}
use Rattle.splits.proofs.texts.write_second.Goals as goal
use Rattle.splits.proofs.texts.write_second.Goals.{After-write_half}

-- the half's lines
module _ (c : After-write_half) where
  abbrev new : ℕ → ℕ
  new u = get_or c.args.new.now u 0

  abbrev output' : List ℕ
  output' = c.write_half.new.output

  abbrev Lines : Option ℕ → HalfText c.args.second.now c.args.x c.args.shared.now c.args.added → Type 0
  Lines r h = Writes (lines_of h new) c.args.output.now output' c.args.at r

  wrote : (r : Option ℕ) → c.write_half.result ≡ r → (h : HalfText c.args.second.now c.args.x c.args.shared.now c.args.added) → Lines r h
  wrote r e h =
      subst (λ (r : Option ℕ). Lines r h) e
      (subst (λ (x : ℤ). HalfOf c.args.second.now x c.args.shared.now c.args.added.body c.args.added.constraint h.N h.P h.bodies h.ts
      → Writes (half h.P x new h.bodies [] h.ts) c.args.output.now output' c.args.at c.write_half.result) (to_z-of_z c.ranges.x)
      (c.write_half.ensures h.N h.P h.bodies h.ts) h.is)

pub write_line-requires : goal.write_line-requires
write_line-requires c = let w = (goal.at.write_line-requires c).After-write_half in record { at = (wrote w _ c.in_ok-end.was w.requires.half).2; numbers = refl }

pub returns : goal.returns
returns c = λ h.
    let w = (goal.at.returns c).After-write_half in
    let u = c.write_line in
    then-written (lines_of h (new w)) closing w.args.output.now (output' w) u.new.output w.args.at _ u.result (wrote w _ c.in_ok-end.was h) u.ensures

pub returns-in_err-end : goal.returns-in_err-end
returns-in_err-end c = λ h.
    let w = (goal.at.returns-in_err-end c).After-write_half in
    rw c.from_residual.ensures (over-more (lines_of h (new w)) closing w.args.output.now (output' w) (output' w) w.args.at (wrote w _ c.in_err-end.was h))
