use mathlib.Core.Path.{◌≡◌, sym, ◌∙◌}
use mathlib.Core.List.{List}
use Prim.Native.Nat.{ℕ, ◌≤◌}
use native.Mathlib.Omega.{arith}
use lib.ListN.{length, take}
use lib.Seq.{length-take-le}
use Rattle.trimming.proofs.Turns.{front-taken, goes-out, stays-in}
use Rattle.trimming.proofs.trials.try_without.Goals as goal
use Rattle.trimming.proofs.trials.try_without.Goals.{After-write_without-n}

-- the text without the bytes, in the buffer
module _ (w : After-write_without-n) where
  abbrev buffer : List ℕ
  buffer = w.write_without-n.new.trial

  abbrev n : ℕ
  n = w.write_without-n.result

  least : w.args.start ≤ n
  least = w.write_without-n.ensures.bounds.0

  most : n ≤ w.args.len
  most = w.write_without-n.ensures.bounds.1

  size : length (take n buffer) ≡ n
  size = length-take-le n buffer (omega (arith, most, w.write_without-n.auto.trial, w.requires.bounds.1, w.requires.room.0, w.requires.room.1))

pub slice_bounds-is_accepted-end-2 : goal.slice_bounds-is_accepted-end-2
slice_bounds-is_accepted-end-2 c = sym (size (goal.at.slice_bounds-is_accepted-end-2 c).After-write_without-n)

pub slice_bounds-put_bytes-end-then-is_accepted : goal.slice_bounds-put_bytes-end-then-is_accepted
slice_bounds-put_bytes-end-then-is_accepted c = sym (size (goal.at.slice_bounds-put_bytes-end-then-is_accepted c).After-write_without-n)

pub put_bytes-requires : goal.put_bytes-requires
put_bytes-requires c =
    let w = (goal.at.put_bytes-requires c).After-write_without-n in
    omega (arith, size w, most w, w.requires.bounds.1, w.requires.room.0)

pub returns-then-is_accepted : goal.returns-then-is_accepted
returns-then-is_accepted c = let q = c in
    let w = (goal.at.returns-then-is_accepted c).After-write_without-n in
    let a = w.args in
    let f = front-taken (take (n w) (buffer w)) a.text.now _ _ c.put_bytes.ensures (omega (arith, size w, most w, w.requires.bounds.1)) in record {
      bounds = (omega (arith, f.0, size w, least w), omega (arith, f.0, size w, most w));
      empty = q.is_accepted.ensures.empty;
      tried = λ ws p.
          f.1 ∙ goes-out (length a.store.now) ws a.text.now a.start a.end a.len w.write_without-n.ensures.written
          (sym (q.is_accepted.ensures.accepted ws p) ∙ c.if-is_accepted.true);
    }

pub returns : goal.returns
returns c = let q = c in
    let w = (goal.at.returns c).After-write_without-n in
    let a = w.args in
    let b = w.requires.bounds in record {
      bounds = (omega (arith, b.0.0, b.0.1), omega arith);
      empty = q.is_accepted.ensures.empty;
      tried = λ ws p.
          stays-in (length a.store.now) ws a.text.now a.start a.end a.len w.write_without-n.ensures.written
          (sym (q.is_accepted.ensures.accepted ws p) ∙ c.if-is_accepted.false);
    }
