use mathlib.Core.Path.{refl}
use mir.Facts.{to_z-of_z}
use Rattle.loops.proofs.EdgeMarks.{more-none}
use Rattle.loops.proofs.edges.mark_if.Goals as goal

pub returns-then-chosen : goal.returns-then-chosen
returns-then-chosen c =
    let m = c in
    let d = c in
    let s = c in
    rw d.if-chosen.true (rw (to_z-of_z s.ranges.word) at m.mark_literal.ensures)

pub returns-else-chosen : goal.returns-else-chosen
returns-else-chosen c = let s = c in more-none _ _ s.requires.0 (λ i j. rw c.if-chosen.false refl)
