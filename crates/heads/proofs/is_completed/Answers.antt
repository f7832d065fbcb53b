use mathlib.Core.Path.{sym, ◌∙◌}
use Rattle.heads.specs.Heads.{Covers}
use Rattle.heads.proofs.Bodies.{one-completes}
use Rattle.heads.proofs.is_completed.Goals as goal
use Rattle.heads.proofs.is_completed.Goals.{Then-is_covered}

-- the index covers the program
covers : (c : Then-is_covered) → (let a = c.args in Covers a.index.now a.table.now a.rules)
covers c = c.requires.index (sym c.is_covered.ensures ∙ c.if-is_covered.true)

pub is_found-requires : goal.is_found-requires
is_found-requires c = let p = c.requires in (covers (goal.at.is_found-requires c).Then-is_covered, p.program.0.1.sound, p.program.1)

pub returns-then-is_found : goal.returns-then-is_found
returns-then-is_found c =
    let d = (goal.at.returns-then-is_found c).Then-is_covered in
    let s = c in
    let a = s.args in
    let q = c.is_found.ensures c.if-is_found.true in
    λ ws H. rw (← H.are) (λ called K.
    sym (one-completes a.table.now a.rules s.requires.program.0.1.sound (covers d).plain K a.heads.now a.name q.0 q.1 q.2))
