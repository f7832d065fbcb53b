use mathlib.Core.Path.{◌≡◌}
use Prim.Native.Nat.{◌+◌, ◌-◌}
use native.Mathlib.Omega.{arith}
use mir.Facts.{to_z-of_z}
use Rattle.steps.proofs.Gathering.{put-names}
use Rattle.steps.proofs.unfounded.complete.Goals as goal

pub complement_all-requires : goal.complement_all-requires
complement_all-requires c =
    let s = c in
    let e : s.args.n + 1 - 1 ≡ s.args.n = omega arith in
    rw e s.requires.names

pub returns : goal.returns
returns c =
    let s = c in
    put-names s.args.row.now _ s.args.h _ s.args.n (s.args.n + 1 - 1) (omega arith) (to_z-of_z s.ranges.h) (omega (arith, s.requires.row)) c.complement_all.ensures
