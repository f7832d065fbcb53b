-- What `look_at` tells of the nogood; the complement of the one free literal is made true.
use mathlib.Core.Path.{◌≡◌, refl, sym, ◌∙◌}
use Prim.Native.Nat.{◌≤◌}
use lib.IntN.{ℤ, pos}
use lib.ListN.{get_or}
use mir.Syntax.{w32}
use mir.Val.{to_z, of_z}
use mir.Facts.{to_z-of_z}
use Rattle.words.specs.Limits.{largest}
use Rattle.words.specs.Literals.{variable, complement}
use Rattle.words.proofs.Literals.{variable-complement}
use Rattle.words.proofs.Words.{back}
use Rattle.propagation.specs.Propagate.{Looked}
use Rattle.propagation.specs.declared.units.Look.{Look}
use Rattle.propagation.specs.declared.units.Look.TheVariants.{Unit}
use borrow.Author.Rules.{rules, sfits_of}
use borrow.Author.Rules.{rules}
use Rattle.propagation.proofs.units.derive.Goals as goal
use Rattle.propagation.proofs.units.derive.Goals.{After-look_at-look, In-Unit, After-complement_of}

told : (c : After-look_at-look) (x : Look) → c.look_at-look.result ≡ x → Looked c.args.assignment.now c.args.literals.now x
told c x e = rw e at c.look_at-look.ensures

-- the one free literal
unit : (c : In-Unit) → let s = c in
    Looked s.args.assignment.now s.args.literals.now (Unit c.in-Unit.j)
unit c = told c.before _ c.in-Unit.is

abbrev one : In-Unit → ℤ
one c = get_or c.args.literals.now c.in-Unit.j (pos 0)

small : (c : In-Unit) → variable (one c) ≤ largest
small c = c.requires.literals.high (one c) (unit c).1.here

pub offset_bounds-literals-j : goal.offset_bounds-literals-j
offset_bounds-literals-j c = let h = (unit c).0 in search rules

pub bounds-literals-j : goal.bounds-literals-j
bounds-literals-j c = (unit c).0

pub complement_of-requires : goal.complement_of-requires
complement_of-requires c = rw (back (one (goal.at.complement_of-requires c).In-Unit) c.complement_of-arg-1.given) (small (goal.at.complement_of-requires c).In-Unit)

-- what becomes true
other : (c : After-complement_of) → to_z w32 (of_z w32 c.complement_of.result) ≡ complement (one c.before.before)
other c =
    to_z-of_z {w = w32} (sfits_of {z = c.complement_of.result} c.complement_of.type_inv)
    ∙ (rw (back (one c.before.before) c.complement_of-arg-1.given) at c.complement_of.ensures)

pub make_true-v-requires : goal.make_true-v-requires
make_true-v-requires c = let k = (goal.at.make_true-v-requires c).In-Unit in record { literal = rw (other (goal.at.make_true-v-requires c).After-complement_of, variable-complement (one k)) (small k); size = k.requires.size }

pub returns-in-All : goal.returns-in-All
returns-in-All c = (refl, told (goal.at.returns-in-All c).After-look_at-look _ c.in-All.is)

pub returns-in-Idle : goal.returns-in-Idle
returns-in-Idle c = (refl, told (goal.at.returns-in-Idle c).After-look_at-look _ c.in-Idle.is)

pub returns-in-Unit : goal.returns-in-Unit
returns-in-Unit c =
    let k = (goal.at.returns-in-Unit c).In-Unit in
    let o = other (goal.at.returns-in-Unit c).After-complement_of in
    let v : c.make_true-v.result ≡ variable (one k) = c.make_true-v.ensures.variable ∙ rw (o, variable-complement (one k)) in
    (one k, (unit k).1, sym v, c.make_true-v.ensures.assigned ∙ rw (o, v, variable-complement (one k)))
