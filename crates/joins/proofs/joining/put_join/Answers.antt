use native.Mathlib.Omega.{arith}
use lib.ListN.{length-append}
use Rattle.text.proofs.Puts.{put_on}
use Rattle.joins.specs.Joining.{said_at}
use Rattle.joins.proofs.Joins.{join-put}
use Rattle.joins.proofs.joining.put_join.Goals as goal

pub put_bytes-requires : goal.put_bytes-requires
put_bytes-requires c =
    let s = c in
    omega (arith, s.requires.room, c.put_said-end.ensures.within, c.put_said-right.ensures.within, c.put_size-body.ensures.within, c.put_bytes-count.ensures.ends, c.put_size-kind.ensures.within, c.put_bytes-head.ensures.ends)

pub returns : goal.returns
returns c = let s = c in
    let last = c.put_bytes.ensures in
    let right = c.put_said-end.ensures in
    let left = c.put_said-right.ensures in
    let count = c.put_size-body.ensures in
    let said2 = c.said_count-2.ensures in
    let said1 = c.said_count.ensures in
    let kind = c.put_bytes-count.ensures in
    let atom = c.put_size-kind.ensures in
    let head = c.put_bytes-head.ensures in
    let a = s.args in record {
      written = join-put a.atom _ (said_at a.first a.i) (said_at a.second a.j)
          (omega (arith, said1.0 a.first, said2.0 a.second, length-append (said_at a.first a.i) (said_at a.second a.j)))
          (put_on head (put_on atom.written (put_on kind (put_on count.written (put_on left.written (put_on right.written last))))));
      within = omega (arith, last.ends, right.within, left.within, count.within, kind.ends, atom.within, head.ends);
    }
