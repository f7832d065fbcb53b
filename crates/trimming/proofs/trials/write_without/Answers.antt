use mathlib.Core.Path.{◌≡◌, sym}
use Prim.Native.Nat.{◌-◌, ◌≤◌}
use native.Mathlib.Omega.{arith}
use lib.ListN.{length, take, drop, length-drop}
use lib.Seq.{length-take-le}
use Rattle.text.proofs.Puts.{put_on}
use Rattle.trimming.proofs.Turns.{front-taken, without-size}
use Rattle.trimming.proofs.trials.write_without.Goals as goal
use Rattle.trimming.proofs.trials.write_without.Goals.{Start}

-- the part before the bytes that are left out
module _ (s : Start) where
  front-size : length (take s.args.start s.args.text.now) ≡ s.args.start
  front-size = let b = s.requires.bounds in length-take-le _ _ (omega (arith, b.0.0, b.0.1, b.1))

pub slice_bounds-put_bytes-end : goal.slice_bounds-put_bytes-end
slice_bounds-put_bytes-end c = sym (front-size (goal.at.slice_bounds-put_bytes-end c).Start)

pub put_bytes-front-requires : goal.put_bytes-front-requires
put_bytes-front-requires c =
    let s = (goal.at.put_bytes-front-requires c).Start in
    omega (arith, front-size s, s.requires.bounds.0.0, s.requires.bounds.0.1, s.requires.bounds.1, s.requires.room.0)

pub put_bytes-requires : goal.put_bytes-requires
put_bytes-requires c =
    let p = c in
    let s = (goal.at.put_bytes-requires c).Start in
    let a = s.args in
    let b = s.requires.bounds in
    let d : a.len - a.end ≤ length (drop a.end a.text.now) = omega (arith, length-drop a.end a.text.now, b.1) in
    let m = length-take-le (a.len - a.end) (drop a.end a.text.now) d in
    omega (arith, p.put_bytes-front.ensures.ends, front-size s, m, b.0.0, b.0.1, b.1, s.requires.room.0)

pub returns : goal.returns
returns c = let q = c in
    let p = c in
    let s = c in
    let a = s.args in
    let b = s.requires.bounds in
    let n = without-size a.text.now a.start a.end a.len b.0.0 b.0.1 b.1 in
    let f = front-taken _ a.trial.now _ _ (put_on p.put_bytes-front.ensures q.put_bytes.ensures) (omega (arith, n, b.0.0, b.0.1, b.1, s.requires.room.0, s.requires.room.1)) in record { bounds = (omega (arith, f.0, n), omega (arith, f.0, n, b.0.0, b.0.1)); written = f.1 }
