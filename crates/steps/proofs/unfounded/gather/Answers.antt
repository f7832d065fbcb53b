use mathlib.Core.Path.{◌≡◌, refl, ◌∙◌, ap}
use mathlib.Core.Bool.{false}
use Prim.Native.Nat.{ℕ, ◌+◌, ◌≤◌, max}
use native.Mathlib.Omega.{arith}
use lib.Dec.{eqb}
use mir.Syntax.{w32}
use mir.Val.{to_z, of_z}
use mir.Facts.{to_z-of_z}
use Rattle.words.specs.Limits.{largest, entries}
use Rattle.words.specs.Literals.{variable}
use Rattle.marks.specs.Marks.{marked}
use Rattle.steps.proofs.Gathering.{gathered-on, gathered-all}
use Rattle.steps.proofs.unfounded.gather.Goals as goal
use Rattle.steps.proofs.unfounded.gather.Goals.{After-larger-end}

-- where the loop ends
module _ (c : After-larger-end) where
  first : c.variable_of.result ≡ variable c.args.h
  first = rw (to_z-of_z c.ranges.h) at c.variable_of.ensures

  end_is : c.larger-end.result ≡ max c.extent.result (variable c.args.h + 1)
  end_is = rw first at c.larger-end.ensures

  within : c.larger-end.result ≤ entries
  within = omega (arith, end_is, c.requires.first, c.extent.ensures.within, c.requires.rows.1)

  -- no name is marked from there on, and h stands before
  past : (u : ℕ) → c.larger-end.result ≤ u → (marked c.args.found.now u ≡ false) × (¬ (u ≡ variable c.args.h))
  past u k = (ap (λ (n : ℕ). eqb n 1) (c.extent.ensures.blank u (omega (arith, end_is))), λ p. omega (arith, end_is))

pub overflow_add-variable_of : goal.overflow_add-variable_of
overflow_add-variable_of c =
    let s = c in
    let e = rw (to_z-of_z s.ranges.h) at c.variable_of.ensures in
    record { fits = omega (arith, e, s.requires.first) }

pub loop-v-init : goal.loop-v-init
loop-v-init c = (omega arith, omega (arith, end_is c), omega arith, refl, refl)

pub gather_one-count-requires : goal.gather_one-count-requires
gather_one-count-requires c = let t = c in
    let l = t.loop-v in
    let e = (goal.at.gather_one-count-requires c).After-larger-end in record { place = (l.invariant.0, omega (arith, t.loop-v-test.true, within e), l.invariant.2, omega (arith, l.invariant.3, e.requires.rows.0)) }

pub loop-v-preserved : goal.loop-v-preserved
loop-v-preserved c =
    let t = c in
    let l = t.loop-v in
    let e = (goal.at.loop-v-preserved c).After-larger-end in
    let g = c.gather_one-count in (
      omega (arith, l.invariant.0),
      omega (arith, t.loop-v-test.true),
      omega (arith, g.ensures.within),
      g.auto.row ∙ l.invariant.3,
      gathered-on (marked e.args.found.now) (to_z w32 (of_z w32 e.args.h)) l.v l.invariant.0 l.invariant.4 g.ensures.words,
    )

pub returns : goal.returns
returns c = let l = c.loop-v in
    let e = (goal.at.returns c).After-larger-end in
    let h = e.args.h in record {
      within = omega (arith, l.invariant.1, l.invariant.2, within e);
      words = gathered-all (marked e.args.found.now) h l.v largest (to_z-of_z {w = w32} e.ranges.h) l.invariant.0 (omega (arith, l.invariant.1, within e))
          (λ u k. past e u (omega (arith, c.loop-v-test.false))) l.invariant.4;
    }
