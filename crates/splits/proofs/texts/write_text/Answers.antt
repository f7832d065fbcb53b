use mathlib.Core.Path.{◌≡◌, sym, ap, ◌∙◌, subst}
use mathlib.Core.List.{List, [], ◌∷◌, ◌++◌}
use Prim.Native.Nat.{ℕ}
use native.Mathlib.Omega.{arith}
use lib.IntN.{ℤ}
use lib.ListN.{get_or, length-replicate}
use mir.Syntax.{w32}
use mir.Val.{to_z, of_z}
use mir.Facts.{to_z-of_z}
use Rattle.words.specs.Limits.{entries}
use Rattle.words.specs.Literals.{complement}
use Rattle.words.proofs.Literals.{variable-complement}
use Rattle.drupe.specs.Texts.{Step}
use Rattle.merging.specs.Merge.{half}
use Rattle.renaming.specs.Standing.{HalfOf}
use Rattle.renaming.specs.Writing.{Writes}
use Rattle.std.proofs.Common.{Option}
use Rattle.renaming.proofs.SameNames.{same_half}
use Rattle.renaming.proofs.Written.{then-written, over-more}
use Rattle.splits.specs.Joined.{HalfText, lines_of, closing}
use Rattle.splits.proofs.Joining.{kept-within}
use borrow.Author.Rules.{sfits_of}
use Rattle.splits.proofs.texts.write_text.Goals as goal
use Rattle.splits.proofs.texts.write_text.Goals.{After-write_half, After-complement_of}

pub write_half-requires : goal.write_half-requires
write_half-requires c = let s = c in
    let k = c.keep_all in record { at = omega arith; literal = rw (to_z-of_z s.ranges.x) s.requires.literal; new = kept-within k.new.new (k.auto.new ∙ length-replicate {A = ℕ} entries 0) k.ensures }

-- the first half's lines
module _ (c : After-write_half) where
  abbrev same : ℕ → ℕ
  same u = get_or c.keep_all.new.new u 0

  abbrev output' : List ℕ
  output' = c.write_half.new.output

  abbrev Half : Type 0
  Half = HalfText c.args.first.now c.args.x (0 ∷ []) c.args.demanded

  wrote : (r : Option ℕ) → c.write_half.result ≡ r → (h : Half) → Writes (lines_of h (λ u. u)) c.args.output.now output' 0 r
  wrote r e h =
      subst (λ (l : List Step). Writes l c.args.output.now output' 0 r)
      (same_half same (λ u. u) c.keep_all.ensures h.P c.args.x h.bodies c.args.first.now h.ts h.is.reads)
      (subst (λ (r : Option ℕ). Writes (lines_of h same) c.args.output.now output' 0 r) e
      (subst (λ (x : ℤ). HalfOf c.args.first.now x (0 ∷ []) c.args.demanded.body c.args.demanded.constraint h.N h.P h.bodies h.ts
      → Writes (half h.P x same h.bodies [] h.ts) c.args.output.now output' 0 c.write_half.result) (to_z-of_z c.ranges.x)
      (c.write_half.ensures h.N h.P h.bodies h.ts) h.is))

-- the second half's literal
other : (c : After-complement_of) → to_z w32 (of_z w32 c.complement_of.result) ≡ complement c.args.x
other c = let k = c.complement_of in to_z-of_z {w = w32} (sfits_of {z = k.result} k.type_inv) ∙ (k.ensures ∙ ap complement (to_z-of_z c.ranges.x))

pub write_second-requires : goal.write_second-requires
write_second-requires c = let d = (goal.at.write_second-requires c).After-complement_of in
    let a = (goal.at.write_second-requires c).After-write_half.args in
    let p = (goal.at.write_second-requires c).After-write_half.requires in record { at = (wrote (goal.at.write_second-requires c).After-write_half _ c.in_ok-end.was p.first).2; literal = rw (other d, variable-complement a.x) p.literal; new = p.new; half = subst (λ (y : ℤ). HalfText a.second.now y a.shared.now a.forbidden) (sym (other d)) p.second }

pub returns : goal.returns
returns c = λ h k.
    let d = (goal.at.returns c).After-complement_of in
    let w = (goal.at.returns c).After-write_half in
    let a = w.args in
    let u = c.write_second in
    then-written (lines_of h (λ u. u)) (lines_of k (λ u. get_or a.new.now u 0) ++ closing) a.output.now (output' w) u.new.output 0 _ u.result (wrote w _ c.in_ok-end.was h)
    (subst (λ (y : ℤ). (k : HalfText a.second.now y a.shared.now a.forbidden)
    → Writes (lines_of k (λ u. get_or a.new.now u 0) ++ closing) (output' w) u.new.output c.in_ok-end.end u.result) (other d) u.ensures k)

pub returns-in_err-end : goal.returns-in_err-end
returns-in_err-end c = λ h k.
    let w = (goal.at.returns-in_err-end c).After-write_half in
    let a = w.args in
    rw c.from_residual.ensures (over-more (lines_of h (λ u. u)) (lines_of k (λ u. get_or a.new.now u 0) ++ closing) a.output.now (output' w) (output' w) 0 (wrote w _ c.in_err-end.was h))
