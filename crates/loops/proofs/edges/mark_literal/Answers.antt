use mathlib.Core.Path.{◌≡◌, refl}
use Prim.Native.Nat.{◌≤◌}
use native.Mathlib.Omega.{arith}
use mir.Facts.{to_z-of_z}
use Rattle.loops.specs.Edges.{place_by}
use Rattle.loops.proofs.EdgeMarks.{more-none, no_place}
use Rattle.loops.proofs.edges.mark_literal.Goals as goal
use Rattle.loops.proofs.edges.mark_literal.Goals.{After-place_of-a}

tells : (c : After-place_of-a)
    → (let s = c in c.place_of-a.result ≡ place_by s.args.places.now s.args.word)
tells c = rw (to_z-of_z c.ranges.word) at c.place_of-a.ensures

pub mark_heads-requires : goal.mark_heads-requires
mark_heads-requires c =
    let p = (goal.at.mark_heads-requires c).After-place_of-a in
    let s = c in
    (s.requires.0, c.if-a-gt0.true, rw (tells p) (s.requires.1 s.args.word), s.requires.2)

pub returns-then-a-gt0 : goal.returns-then-a-gt0
returns-then-a-gt0 c = rw (tells (goal.at.returns-then-a-gt0 c).After-place_of-a) at c.mark_heads.ensures

pub returns-else-a-gt0 : goal.returns-else-a-gt0
returns-else-a-gt0 c =
    let p = (goal.at.returns-else-a-gt0 c).After-place_of-a in
    let s = c in
    let none : place_by s.args.places.now s.args.word ≤ 0 = omega (arith, tells p, c.if-a-gt0.false) in
    more-none _ _ s.requires.0 (λ i j. rw (no_place i none) refl)
