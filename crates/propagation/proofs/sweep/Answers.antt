-- The loop keeps `Sweeping`: what the nogoods before i have given.
use mathlib.Core.Path.{◌≡◌}
use mathlib.Core.List.{List}
use native.Mathlib.Omega.{arith}
use lib.IntN.{ℤ}
use Rattle.nogoods.specs.Records.{Readable, Stands}
use Rattle.propagation.specs.Propagate.{DerivesAt}
use Rattle.propagation.specs.declared.units.Derived.{Derived}
use Rattle.nogoods.proofs.Recorded.{readable}
use Rattle.propagation.proofs.Closures.{clashes-before, conflicting}
use Rattle.propagation.proofs.Sweeps.{Sweeping, sweep-start, sweep-at, sweep-settled, sweep-assigned, sweep-over}
use Rattle.propagation.proofs.sweep.Goals as goal
use Rattle.propagation.proofs.sweep.Goals.{In-loop-i, After-derive_at-given}

pub loop-i-init : goal.loop-i-init
loop-i-init c = sweep-start _ _ c.requires.size

-- the nogood at i
module _ (c : In-loop-i) where
  abbrev words : List ℤ
  words = c.args.nogoods.now

  abbrev going : Sweeping words c.args.assignment.now c.loop-i.assignment c.loop-i.changed c.loop-i.i
  going = c.loop-i.invariant

  stands : Stands words c.loop-i.i
  stands = sweep-at _ _ _ _ _ going c.loop-i-test.true

  read : Readable words c.loop-i.i
  read = readable _ _ c.requires.encoded stands

pub derive_at-given-requires : goal.derive_at-given-requires
derive_at-given-requires c = record { «record» = read (goal.at.derive_at-given-requires c).In-loop-i; size = c.loop-i.invariant.size }

pub end_at-i-requires : goal.end_at-i-requires
end_at-i-requires c = (read (goal.at.end_at-i-requires c).In-loop-i).room

-- what the nogood gave
told : (c : After-derive_at-given) (x : Derived) → c.derive_at-given.result ≡ x
    → let l = c.loop-i in DerivesAt (words c.before.before) l.i l.assignment c.derive_at-given.new.assignment x
told c x e = rw e at c.derive_at-given.ensures

pub returns-in-Conflicting : goal.returns-in-Conflicting
returns-in-Conflicting c =
    let o = (goal.at.returns-in-Conflicting c).After-derive_at-given in
    let k = (goal.at.returns-in-Conflicting c).In-loop-i in
    let t = told o _ c.in-Conflicting.is in
    clashes-before _ _ _ (going k).grows
    (conflicting _ _ (stands k) t.0 (read k).literals k.loop-i.assignment (going k).size t.1.1)

pub loop-i-smaller-in-Assigned : goal.loop-i-smaller-in-Assigned
loop-i-smaller-in-Assigned c = omega (arith, c.loop-i-test.true)

pub loop-i-preserved-in-Assigned : goal.loop-i-preserved-in-Assigned
loop-i-preserved-in-Assigned c =
    let o = (goal.at.loop-i-preserved-in-Assigned c).After-derive_at-given in
    let k = (goal.at.loop-i-preserved-in-Assigned c).In-loop-i in
    let t = told o _ c.in-Assigned.is in
    rw c.end_at-i.ensures
    (sweep-assigned _ _ _ _ _ (going k) k.loop-i-test.true t.0 (read k).literals _ _ t.1)

pub loop-i-smaller : goal.loop-i-smaller
loop-i-smaller c = omega (arith, c.loop-i-test.true)

pub loop-i-preserved : goal.loop-i-preserved
loop-i-preserved c =
    let o = (goal.at.loop-i-preserved c).After-derive_at-given in
    let k = (goal.at.loop-i-preserved c).In-loop-i in
    let t = told o _ c.in-Nothing.is in
    rw (c.end_at-i.ensures, t.0) (sweep-settled _ _ _ _ _ (going k) k.loop-i-test.true t.1)

pub returns-then-changed : goal.returns-then-changed
returns-then-changed c = let l = c.loop-i in (l.invariant.grows, l.invariant.more c.if-changed.true)

pub returns : goal.returns
returns c = let l = c.loop-i in (l.invariant.same c.if-changed.false, sweep-over _ _ _ _ _ l.invariant c.loop-i-test.false c.if-changed.false)
