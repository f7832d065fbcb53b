use mathlib.Core.Path.{◌≡◌, sym, ap, ◌∙◌}
use mathlib.Core.List.{append-nil}
use Prim.Native.Nat.{ℕ}
use native.Mathlib.Omega.{arith}
use lib.IntN.{pos}
use lib.ListN.{take}
use mir.Syntax.{w32}
use mir.Val.{to_z, of_z}
use mir.Facts.{to_z-of_z, to_z_pos}
use Rattle.words.specs.Literals.{variable, complement}
use Rattle.marks.specs.Marks.{marked}
use Rattle.steps.proofs.Gathering.{gather-first, gather-name, gather_none, put_word}
use borrow.Author.Rules.{sfits_of}
use Rattle.steps.proofs.unfounded.gather_one.Goals as goal
use Rattle.steps.proofs.unfounded.gather_one.Goals.{Start}

-- the number is not that of h
other : (s : Start) {n : ℕ} → n ≡ variable (to_z w32 (of_z w32 s.args.h)) → ¬ (s.args.v ≡ n) → ¬ (s.args.v ≡ variable s.args.h)
other s e f p = f (p ∙ sym (rw (to_z-of_z s.ranges.h) at e))

pub returns-then-v-variable_of : goal.returns-then-v-variable_of
returns-then-v-variable_of c = let s = c in
    let a = s.args in
    let e = c.if-v-variable_of.true ∙ c.variable_of.ensures in record { within = omega (arith, s.requires.place); words = put_word a.row.now _ a.count (omega (arith, s.requires.place)) (to_z-of_z s.ranges.h) (gather-first (marked a.found.now) a.h a.v (rw (to_z-of_z s.ranges.h) at e)) }

pub complement_of-requires : goal.complement_of-requires
complement_of-requires c =
    let s = c in
    rw (to_z_pos w32 {n = s.args.v} (omega (arith, s.requires.place))) s.requires.place.1

pub returns-then-is_marked : goal.returns-then-is_marked
returns-then-is_marked c = let k = c.complement_of in
    let d = c in
    let s = (goal.at.returns-then-is_marked c).Start in
    let a = s.args in
    let e = other s d.variable_of.ensures d.if-v-variable_of.false in
    let x : to_z w32 (of_z w32 k.result) ≡ complement (pos a.v) = to_z-of_z {w = w32} (sfits_of {z = k.result} k.type_inv) ∙ k.ensures ∙ ap complement (to_z_pos w32 {n = a.v} (omega (arith, s.requires.place))) in record { within = omega (arith, s.requires.place); words = put_word a.row.now _ a.count (omega (arith, s.requires.place)) x (gather-name (marked a.found.now) a.h a.v e (sym d.is_marked.ensures ∙ d.if-is_marked.true)) }

pub returns : goal.returns
returns c = let s = (goal.at.returns c).Start in
    let a = s.args in
    let e = other s c.variable_of.ensures c.if-v-variable_of.false in
    let q = sym c.is_marked.ensures ∙ c.if-is_marked.false in record { within = omega (arith, s.requires.place); words = rw (gather_none (marked a.found.now) a.h a.v e q) (sym (append-nil (take a.count a.row.now))) }
