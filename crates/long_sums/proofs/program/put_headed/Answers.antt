use native.Mathlib.Omega.{arith}
use Rattle.text.proofs.Puts.{put_on}
use Rattle.long_sums.proofs.Held.{held-shape}
use Rattle.long_sums.proofs.Items.{head-put}
use Rattle.long_sums.proofs.program.put_headed.Goals as goal

pub put_head-heads-requires : goal.put_head-heads-requires
put_head-heads-requires c = let s = c in record { rule = held-shape s.args.rule.now.words.now s.args.rule.now.held; room = s.requires.room }

pub returns : goal.returns
returns c = let s = c in
    let heads = c.put_head-heads.ensures in
    let count = c.put_bytes-count.ensures in
    let end = c.put_size-end.ensures in
    let last = c.put_bytes.ensures in record { written = head-put s.args.rule.now.words.now s.args.rule.now.held s.args.atom (put_on heads.written (put_on count (put_on end.written last))); within = omega (arith, heads.within, count.ends, end.within, last.ends) }
