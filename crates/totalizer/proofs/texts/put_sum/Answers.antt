use native.Mathlib.Omega.{arith}
use Rattle.text.proofs.Puts.{put_on}
use Rattle.totalizer.proofs.RuleTexts.{sum-put}
use Rattle.totalizer.proofs.texts.put_sum.Goals as goal

pub returns : goal.returns
returns c = let s = c in
    let last = c.put_bytes.ensures in
    let pairs = c.put_numbers-end.ensures in
    let count = c.put_size-count.ensures in
    let bound = c.put_size-bound.ensures in
    let kind = c.put_bytes-kind.ensures in
    let head = c.put_size-head.ensures in
    let first = c.put_bytes-first.ensures in record { written = sum-put s.args.atom s.args.level s.args.pairs.now (put_on first (put_on head.written (put_on kind (put_on bound.written (put_on count.written (put_on pairs.written last)))))); within = omega (arith, first.ends, head.within, kind.ends, bound.within, count.within, pairs.within, last.ends) }
