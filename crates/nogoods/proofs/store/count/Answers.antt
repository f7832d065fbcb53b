-- The loop: as many nogoods are counted as are not left.
use mathlib.Core.Path.{◌≡◌, ap, ◌∙◌}
use mathlib.Core.Bool.{Bool, true, false, cond}
use mathlib.Core.List.{List, ◌∷◌}
use Prim.Native.Nat.{◌+◌, ◌≤◌}
use native.Mathlib.Omega.{arith}
use lib.ListN.{length}
use Rattle.nogoods.specs.Store.{Stored, live}
use Rattle.nogoods.specs.Records.{dead_at, end_at, stored_at}
use Rattle.nogoods.proofs.Live.{live-nil, live-cons, live-past, by_answer}
use Rattle.nogoods.proofs.Recorded.{rest-next, rest_over, ahead-room}
use Rattle.nogoods.proofs.store.count.Goals as goal
use Rattle.nogoods.proofs.store.count.Goals.{In-loop-i, After-live_at-n}

-- the record at i can be read
room : (c : In-loop-i) → let s = c.args.store.now in end_at s c.loop-i.i ≤ length s
room c = ahead-room c.loop-i.invariant.1 c.loop-i-test.true c.requires

-- of the first nogood and the others
more : (e : Stored) (es : List Stored) → length (live (e ∷ es)) ≡ cond e.dead 0 1 + length (live es)
more e es =
    by_answer e.dead (λ h. ap length (live-past e es h) ∙ rw h (omega arith)) (λ h. ap length (live-cons e es h) ∙ rw h (omega arith))

few : (b : Bool) → cond b 0 1 ≤ 1
few true = omega arith
few false = omega arith

pub live_at-n-requires : goal.live_at-n-requires
live_at-n-requires c = room c

-- one at most is counted
module _ (c : After-live_at-n) where
  abbrev dead : Bool
  dead = dead_at c.args.store.now c.loop-i.i

  one : (c.live_at-n.result ≡ cond dead 0 1) × (c.live_at-n.result ≤ 1)
  one = (c.live_at-n.ensures, omega (arith, c.live_at-n.ensures, few dead))

pub end_at-i-requires : goal.end_at-i-requires
end_at-i-requires c = room (goal.at.end_at-i-requires c).In-loop-i

pub loop-i-preserved : goal.loop-i-preserved
loop-i-preserved c =
    let i = c in
    let v = i.loop-i.invariant in
    let it = stored_at i.args.store.now i.loop-i.i in
    rw c.end_at-i.ensures (
      omega (arith, v.0, one (goal.at.loop-i-preserved c).After-live_at-n),
      λ stored H. rest-next (v.1 stored H) i.loop-i-test.true (λ es q. omega (arith, q, more it es, (one (goal.at.loop-i-preserved c).After-live_at-n).0)),
    )

pub returns : goal.returns
returns c = λ stored H. omega (arith, rest_over (c.loop-i.invariant.1 stored H) c.loop-i-test.false, ap length live-nil)
