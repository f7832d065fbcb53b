-- `by_name::put_body` meets its contract: what is left of the body, put from there on, gives the whole.
-- Assumes nothing.
use mathlib.Core.Path.{◌≡◌, ◌∙◌}
use mathlib.Core.List.{List}
use Prim.Native.Nat.{ℕ, suc, ◌+◌, ◌<◌, ◌≤◌}
use native.Mathlib.Numerals.{add-one}
use native.Mathlib.Omega.{arith}
use lib.IntN.{ℤ, pos, negsuc}
use lib.ListN.{length, set, get_or, drop}
use lib.Seq.{sets, drop-cons, drop-length}
use mir.Facts.{to_z-of_z}
use mir.Syntax.{w16, w32}
use mir.Val.{SFits, to_z, of_z}
use Rattle.words.specs.Limits.{largest}
use Rattle.words.specs.Literals.{variable}
use Rattle.words.proofs.Places.{in-at}
use Rattle.words.proofs.Tops.{top-le}
use Rattle.words.proofs.Words.{back}
use Rattle.names.proofs.by_name.put_body.Goals as goal
use Rattle.names.proofs.by_name.put_body.Goals.{In-loop-i}

-- one word more
on : (d s : List ℤ) (at i : ℕ) → i < length s → sets (set d (at + i) (get_or s i (pos 0))) (at + (i + 1)) (drop (i + 1) s) ≡ sets d (at + i) (drop i s)
on d s at i h =
    let e : at + suc i ≡ suc (at + i) = omega arith in
    rw (add-one, e, drop-cons s i (pos 0) h)

-- a literal fits 16 bits
short : (z : ℤ) → variable z ≤ largest → SFits w16 z
short (pos n) h = record { sfits = omega arith }
short (negsuc n) h = record { sfits = omega arith }

fits : (c : In-loop-i) → SFits w16 (get_or c.args.body.now c.loop-i.i (pos 0))
fits c =
    let b = c.args.body.now in
    let i = c.loop-i.i in
    short (get_or b i (pos 0)) (omega (arith, top-le (in-at (pos 0) b i c.loop-i-test.true), c.requires.1))

word : (c : In-loop-i) → to_z w32 (of_z w32 (get_or c.args.body.now c.loop-i.i (pos 0))) ≡ get_or c.args.body.now c.loop-i.i (pos 0)
word c = let f = fits c in let x = get_or c.args.body.now c.loop-i.i (pos 0) in back x (omega (arith, f.sfits))

pub loop-i-init : goal.loop-i-init
loop-i-init c =
    let a = c.args in
    let e : a.at + 0 ≡ a.at = omega arith in
    rw e

pub overflow_cast-bodies : goal.overflow_cast-bodies
overflow_cast-bodies c = let d = (goal.at.overflow_cast-bodies c).In-loop-i in rw (word d) (fits d)

pub loop-i-preserved : goal.loop-i-preserved
loop-i-preserved c =
    let d = (goal.at.loop-i-preserved c).In-loop-i in
    let l = c.loop-i in
    let a = c.args in
    rw (word d, to_z-of_z {w = w16} (fits d)) (on l.bodies a.body.now a.at l.i c.loop-i-test.true ∙ l.invariant)

pub returns : goal.returns
returns c =
    let l = c.loop-i in
    let e : l.i ≡ length c.args.body.now = omega (arith, c.loop-i-test.false) in
    rw (e, drop-length) at l.invariant
