use mathlib.Core.Path.{◌≡◌, refl, subst, ap, ◌∙◌}
use mathlib.Core.List.{List}
use Prim.Native.Nat.{ℕ, ◌≤◌, ◌<◌}
use native.Mathlib.Omega.{arith}
use lib.IntN.{ℤ, pos}
use lib.ListN.{length, get_or, length-replicate}
use mir.Syntax.{w32}
use mir.Val.{to_z, of_z}
use mir.Facts.{to_z-of_z}
use Rattle.words.specs.Limits.{longest, most_numbers}
use Rattle.text.specs.Classes.{byte_classes}
use Rattle.renaming.specs.Writing.{Writes}
use Rattle.renaming.specs.Standing.{all_standing}
use Rattle.std.proofs.Common.{Some, None}
use Rattle.renaming.specs.declared.lines.HalfLine.{HalfLine}
use Rattle.renaming.proofs.Agrees.{half-stands}
use Rattle.renaming.proofs.Walk.{Walks, walk_start, walk_ends, walk-over, walk-on}
use borrow.Author.Rules.{rules}
use Rattle.renaming.proofs.lines.write_half.Goals as goal
use Rattle.renaming.proofs.lines.write_half.Goals.{After-write_at}

-- where the loop stands, and what the turn there left
module _ (c : After-write_at) where
  abbrev new : ℕ → ℕ
  new v = get_or c.args.new.now v 0

  abbrev output' : List ℕ
  output' = c.write_at.new.output

  literal : to_z w32 (of_z w32 c.args.x) ≡ c.args.x
  literal = to_z-of_z c.ranges.x

  same-output : length output' ≡ length c.args.output.now
  same-output = c.write_at.auto.output ∙ c.loop-line.invariant.2

pub loop-line-init : goal.loop-line-init
loop-line-init c =
    let s = c in
    (walk_start _ _ _ _ _ _ _ _, s.requires.at, refl, length-replicate {A = ℤ} most_numbers (pos 0), length-replicate {A = ℤ} most_numbers (pos 0))

pub slice_bounds-write_at-end : goal.slice_bounds-write_at-end
slice_bounds-write_at-end c = let p = c.loop-line.invariant.3 in search rules

pub slice_bounds-write_at-end-in-loop-line : goal.slice_bounds-write_at-end-in-loop-line
slice_bounds-write_at-end-in-loop-line c = let p = c.loop-line.invariant.4 in search rules

pub write_at-requires : goal.write_at-requires
unfolding byte_classes
write_at-requires c = let k = c in
    let i = k.loop-line.invariant in
    let s = c in record { at = i.1; literal = rw (to_z-of_z s.ranges.x) s.requires.literal.1; new = s.requires.new; classes = refl; rows = (i.3, i.4) }

pub returns-in_err-line : goal.returns-in_err-line
returns-in_err-line c =
    let t = (goal.at.returns-in_err-line c).After-write_at in
    let a = t.args in
    λ N P bodies ts H.
    rw (c.from_residual.ensures, half-stands (new t) H)
    (subst (λ (x : ℤ). Writes (all_standing x (new t) a.shared.now a.has_body a.has_constraint 0 ts) a.output.now (output' t) a.at None) (literal t)
    (walk-over a.text.now _ (new t) a.shared.now a.has_body a.has_constraint a.output.now a.at t.loop-line.invariant.0 t.loop-line.invariant.1 (output' t) c.in_err-line.was t.write_at.ensures ts H.reads))

pub returns : goal.returns
returns c =
    let t = (goal.at.returns c).After-write_at in
    let a = t.args in
    λ N P bodies ts H.
    rw (half-stands (new t) H)
    (subst (λ (x : ℤ). Writes (all_standing x (new t) a.shared.now a.has_body a.has_constraint 0 ts) a.output.now (output' t) a.at (Some t.loop-line.end)) (literal t)
    (walk_ends a.text.now _ (new t) a.shared.now a.has_body a.has_constraint a.output.now a.at t.loop-line.invariant.0 t.loop-line.invariant.1 (output' t) (c.in_ok-line.was ∙ ap Some c.in_default.is) t.write_at.ensures ts H.reads))

onward : (t : After-write_at) (l : HalfLine) → t.write_at.result ≡ Some (Some l)
    → Walks t.args.text.now (to_z w32 (of_z w32 t.args.x)) (new t) t.args.shared.now t.args.has_body t.args.has_constraint t.args.output.now t.args.at (output' t) l.next l.name l.end
    × ((l.end ≤ longest) × ((t.loop-line.position < l.next) × (l.next ≤ length t.args.text.now)))
onward t l g =
    let a = t.args in
    walk-on a.text.now _ (new t) a.shared.now a.has_body a.has_constraint a.output.now a.at t.loop-line.invariant.0 t.loop-line.invariant.1 (output' t) l g t.write_at.ensures

pub loop-line-smaller : goal.loop-line-smaller
loop-line-smaller c =
    let o = onward (goal.at.loop-line-smaller c).After-write_at c.in-Some.line (c.in_ok-line.was ∙ ap Some c.in-Some.is) in
    omega (arith, o.1.1.0, o.1.1.1)

pub loop-line-preserved : goal.loop-line-preserved
loop-line-preserved c =
    let t = (goal.at.loop-line-preserved c).After-write_at in
    let o = onward t c.in-Some.line (c.in_ok-line.was ∙ ap Some c.in-Some.is) in
    let i = t.loop-line.invariant in
    (o.0, o.1.0, same-output t, t.write_at.auto.numbers ∙ i.3, t.write_at.auto.sorted ∙ i.4)
