use mathlib.Core.Path.{◌≡◌, refl, sym, ◌∙◌}
use mathlib.Core.List.{List}
use Prim.Native.Nat.{ℕ, suc, ◌+◌, ◌≤◌}
use native.Mathlib.Nat.{div-add-mod'}
use native.Mathlib.Omega.{arith}
use lib.ListN.{length}
use Rattle.text.specs.Writing.{farthest}
use Rattle.totalizer.specs.declared.texts.Place.{Place}
use Rattle.totalizer.specs.Emitting.{Emits}
use Rattle.joins.specs.Chaining.{first_rules, after}
use Rattle.joins.proofs.Chained.{Chained, chained-start, chained-on, chained-full, chained-last}
use Rattle.joins.proofs.chains.emit_rest.Goals as goal
use Rattle.joins.proofs.chains.emit_rest.Goals.{At-loop-from}

begun : (c : At-loop-from) (before : List ℕ) (p : Place)
    → (let a = c.args in
    Emits (first_rules a.group a.bound a.pairs.now a.first.first) before a.output.now p a.first.place
    → Chained a.group a.bound a.pairs.now a.first.first before a.output.now p a.first a.left.now a.group)
begun c before p e =
    let a = c.args in
    let q = c.requires.pairs in
    let g = c.requires.group in
    let f = c.requires.first in
    chained-start a.first a.left.now q.0 g.0 (omega (arith, g, q.2)) q.1 e f.1 refl f.0

-- the text with which the first group began
abbrev outset : At-loop-from → List ℕ
outset c = c.requires.written.0

-- where it stands
stands : (c : At-loop-from)
    → (let a = c.args in
    Chained a.group a.bound a.pairs.now a.first.first (outset c) c.loop-from.output c.requires.written.1 c.loop-from.node c.loop-from.left c.loop-from.from)
stands c = c.loop-from.invariant.linked _ _ (begun c _ _ c.requires.written.2)

output-long : (c : At-loop-from) → length c.loop-from.output ≡ length c.args.output.now
output-long c = (stands c).rules.long ∙ sym c.requires.written.2.long

long : (c : At-loop-from)
    → (let a = c.args in
    (length c.loop-from.inside ≡ length a.inside.now)
    × (length c.loop-from.outside ≡ length a.outside.now)
    × (length c.loop-from.spare ≡ length a.spare.now)
    × (length c.loop-from.left ≡ length a.left.now)
    × (length c.loop-from.right ≡ length a.right.now)
    × (length c.loop-from.next ≡ length a.next.now))
long c = let I = c.loop-from.invariant in (I.inside-long, I.outside-long, I.spare-long, I.left-long, I.right-long, I.next-long)

room : (c : At-loop-from)
    → (let b = c.args.bound in
    (suc b ≤ length c.loop-from.inside)
    × (suc b ≤ length c.loop-from.outside)
    × (suc b ≤ length c.loop-from.spare)
    × (suc b ≤ length c.loop-from.left)
    × (suc b ≤ length c.loop-from.right)
    × (suc b ≤ length c.loop-from.next))
room c =
    let r = c.requires.room in
    let l = long c in
    (omega (arith, r.0, l.0), omega (arith, r.1, l.1), omega (arith, r.2, l.2), omega (arith, r.3, l.3), omega (arith, r.4, l.4), omega (arith, r.5, l.5))

-- all atoms are in reach
atoms : (c : At-loop-from) → after c.loop-from.node + 8192 ≤ farthest
atoms c =
    let p = c.requires.pairs in
    let C = stands c in
    omega (arith, C.low, C.there, p.3, c.requires.atoms)

pub loop-from-init : goal.loop-from-init
loop-from-init c = record {
  linked = λ before p C. C;
  inside-long = refl;
  outside-long = refl;
  spare-long = refl;
  left-long = refl;
  right-long = refl;
  next-long = refl;
}

-- sums of places are small
small : (c : At-loop-from) → c.loop-from.from + c.args.group ≤ 100
small c =
    let p = c.requires.pairs in
    let g = c.requires.group in
    omega (arith, (stands c).there, p.3, g)

pub overflow_add-from : goal.overflow_add-from
overflow_add-from c = record { fits = omega (arith, small c) }

pub overflow_mul-from : goal.overflow_mul-from
overflow_mul-from c = record { fits = omega (arith, small c) }

pub overflow_add-result : goal.overflow_add-result
overflow_add-result c = record { fits = omega (arith, atoms (goal.at.overflow_add-result c).At-loop-from) }

pub returns-then-here-gt-MOST_RULES : goal.returns-then-here-gt-MOST_RULES
returns-then-here-gt-MOST_RULES c =
    let d = (goal.at.returns-then-here-gt-MOST_RULES c).At-loop-from in
    let p = d.requires.pairs in
    λ before q e. chained-full p.0 (d.loop-from.invariant.linked before q (begun d before q e)) d.requires.group.0 p.1 p.3 c.if-here-gt-MOST_RULES.true

pub overflow_add-from-in-loop-from : goal.overflow_add-from-in-loop-from
overflow_add-from-in-loop-from c = record { fits = omega (arith, small (goal.at.overflow_add-from-in-loop-from c).At-loop-from) }

pub emit_next-node-requires : goal.emit_next-node-requires
emit_next-node-requires c = let d = (goal.at.emit_next-node-requires c).At-loop-from in
    let C = stands d in
    let p = d.requires.pairs in
    let g = d.requires.group in record { node = (C.rules.bounded, C.within, C.levels, atoms d); pairs = (p.0, p.1); part = (omega arith, omega (arith, g), omega (arith, c.loop-from-test.true)); room = room d }

pub overflow_add-from-in-loop-from-2 : goal.overflow_add-from-in-loop-from-2
overflow_add-from-in-loop-from-2 c = record { fits = omega (arith, small (goal.at.overflow_add-from-in-loop-from-2 c).At-loop-from) }

pub loop-from-smaller : goal.loop-from-smaller
loop-from-smaller c =
    let d = (goal.at.loop-from-smaller c).At-loop-from in
    omega (arith, c.loop-from-test.true, d.requires.group)

pub loop-from-preserved : goal.loop-from-preserved
loop-from-preserved c =
    let d = (goal.at.loop-from-preserved c).At-loop-from in
    let p = d.requires.pairs in
    let g = d.requires.group in
    let I = d.loop-from.invariant in
    let y = c.emit_next-node in
    let e = y.ensures in
    record {
      linked = λ before q C. chained-on p.0 (I.linked before q C) g.0 p.1 c.loop-from-test.true y.result y.new.left e.rules e.levels e.within.0 e.within.1;
      inside-long = y.auto.inside ∙ I.inside-long;
      outside-long = y.auto.outside ∙ I.outside-long;
      spare-long = y.auto.spare ∙ I.spare-long;
      left-long = y.auto.left ∙ I.left-long;
      right-long = y.auto.right ∙ I.right-long;
      next-long = y.auto.next ∙ I.next-long;
    }

pub emit_last-requires : goal.emit_last-requires
emit_last-requires c = let d = (goal.at.emit_last-requires c).At-loop-from in
    let C = stands d in
    let p = d.requires.pairs in
    let g = d.requires.group in
    let r = room d in
    let h = div-add-mod' (length d.args.pairs.now) 2 in record { node = (C.rules.bounded, C.within, C.levels, atoms d); pairs = (p.0, p.1); part = (omega (arith, h, C.there), omega (arith, h, c.loop-from-test.false, g), omega (arith, h)); room = (r.0, r.1, r.2, r.4) }

pub returns : goal.returns
returns c =
    let d = (goal.at.returns c).At-loop-from in
    let p = d.requires.pairs in
    let y = c.emit_last in
    λ before q e. chained-last p.0 (d.loop-from.invariant.linked before q (begun d before q e)) d.requires.group.0 p.1 c.loop-from-test.false p.3 y.result y.ensures.rules y.ensures.atom
