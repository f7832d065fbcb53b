-- `by_name::enter_body` meets its contract: the record is written, and the stores into the index leave the records as they are.
-- Assumes nothing.
use mathlib.Core.Path.{◌≡◌, sym, ◌∙◌}
use Prim.Native.Nat.{ℕ, ◌+◌, ◌*◌}
use native.Mathlib.Omega.{arith}
use lib.IntN.{pos}
use lib.ListN.{length, get_or, length-set}
use mir.Facts.{to_z_pos}
use mir.Syntax.{w16}
use Rattle.words.specs.Limits.{entries}
use Rattle.names.specs.ByName.{width}
use Rattle.names.proofs.Called.{Written, written, written-index, written_on, entered}
use Rattle.names.proofs.by_name.enter_body.Goals as goal
use Rattle.names.proofs.by_name.enter_body.Goals.{After-put_body}

pub put_body-requires : goal.put_body-requires
put_body-requires c =
    let e = c in
    let p = e.requires in
    (simp length-set (omega (arith, e.if-bodies-ne-BODY_WORDS.false, p.1, p.2)), p.3)

-- what the call has written
wrote : (c : After-put_body) → (let a = c.args in Written a.bodies.now c.put_body.new.bodies a.name a.body.now)
wrote c =
    let b = c in
    let s = c in
    let a = s.args in
    let count = to_z_pos w16 {n = length a.body.now + 1} (omega (arith, s.requires.2)) in
    let e = rw count at c.put_body.ensures in
    rw e (written a.bodies.now a.body.now a.name b.if-bodies-ne-BODY_WORDS.false s.requires.1 s.requires.2)

-- and left
index : (c : After-put_body) → (k : ℕ)
    → get_or c.put_body.new.bodies (width * entries + k) (pos 0) ≡ get_or c.args.bodies.now (width * entries + k) (pos 0)
index c k =
    let b = c in
    let s = c in
    let a = s.args in
    let count = to_z_pos w16 {n = length a.body.now + 1} (omega (arith, s.requires.2)) in
    let e = rw count at c.put_body.ensures in
    rw e (written-index a.bodies.now a.body.now a.name b.if-bodies-ne-BODY_WORDS.false s.requires.1 s.requires.2 k)

pub put_name-requires : goal.put_name-requires
put_name-requires c =
    let d = (goal.at.put_name-requires c).After-put_body in
    let e = c in
    ((wrote d).long ∙ e.if-bodies-ne-BODY_WORDS.false, d.place_of-place.ensures.1, e.requires.0, e.requires.1)

pub returns-then-bodies-ne-BODY_WORDS : goal.returns-then-bodies-ne-BODY_WORDS
returns-then-bodies-ne-BODY_WORDS c = λ called C. absurd (c.if-bodies-ne-BODY_WORDS.true C.long)

pub returns : goal.returns
returns c =
    let n = c.put_name in
    let d = (goal.at.returns c).After-put_body in
    let p = d.requires in
    let W = written_on (wrote d) n.auto.bodies n.ensures.records p.1 p.2 in
    let here = rw d.place_of-place.ensures.0 at n.ensures.here in
    λ called C unnamed fresh. entered W p.0 p.1 C unnamed fresh here (λ k t. n.ensures.still k (λ e. t (sym (index d k) ∙ e)))
