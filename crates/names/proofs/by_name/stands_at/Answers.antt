-- `by_name::stands_at` meets its contract: the first word decides, and then the literals.
-- Assumes nothing.
use mathlib.Core.Path.{◌≡◌, sym, ◌∙◌}
use Prim.Native.Nat.{◌+◌, ◌-◌, ◌*◌}
use native.Mathlib.Omega.{arith}
use lib.IntN.{pos}
use lib.ListN.{length, get_or}
use mir.Facts.{to_z-of_z, to_z_pos}
use mir.Syntax.{w32}
use borrow.Author.Rules.{sfits_of}
use Rattle.words.specs.Literals.{same}
use Rattle.names.specs.ByName.{width}
use Rattle.names.proofs.Called.{stands_parts}
use Rattle.names.proofs.by_name.stands_at.Goals as goal
use Rattle.names.proofs.by_name.stands_at.Goals.{After-is_same}

-- what the test of the first word tells
tells : (c : After-is_same)
    → (let a = c.args in
    c.is_same.result ≡ same (get_or a.bodies.now (width * a.v) (pos 0)) (pos (length a.body.now + 1)))
tells c =
    let w = c.word_of in
    let word = to_z-of_z {w = w32} (sfits_of {z = w.result} w.type_inv) ∙ w.ensures in
    let count = to_z_pos w32 {n = length c.args.body.now + 1} (omega (arith, c.requires.2)) in
    rw (word, count) at c.is_same.ensures

pub returns-then-is_same : goal.returns-then-is_same
returns-then-is_same c =
    let s = c in
    let a = s.args in
    let n : width * a.v + 1 + length a.body.now - (width * a.v + 1) ≡ length a.body.now = omega arith in
    let q = stands_parts a.bodies.now a.body.now a.v (omega (arith, s.requires.0, s.requires.1)) in
    let t = sym (tells (goal.at.returns-then-is_same c).After-is_same) ∙ c.if-is_same.true in
    sym (rw (t, ← n) at q ∙ sym c.is_body.ensures)

pub returns : goal.returns
returns c =
    let s = c in
    let a = s.args in
    let q = stands_parts a.bodies.now a.body.now a.v (omega (arith, s.requires.0, s.requires.1)) in
    let t = sym (tells (goal.at.returns c).After-is_same) ∙ c.if-is_same.false in
    sym (rw t at q)
