use mathlib.Core.Path.{refl}
use Prim.Native.Nat.{◌*◌}
use native.Mathlib.Omega.{arith}
use lib.IntN.{pos}
use lib.ListN.{get_or}
use Rattle.std.proofs.Common.{rules}
use Rattle.words.specs.Lists.{any}
use Rattle.words.proofs.Words.{back}
use Rattle.weights.proofs.Matching.{pair-none}
use Rattle.loops.specs.Edges.{is_place, is_at}
use Rattle.loops.proofs.EdgeMarks.{filling-on, filling-end, pair-split}
use Rattle.loops.proofs.edges.mark_pairs.Goals as goal

pub loop-k-preserved : goal.loop-k-preserved
loop-k-preserved c =
    let l = c.loop-k in
    let pairs = c.args.pairs.now in
    let more = rw (c.is_marked.ensures, back (get_or pairs (2 * l.k) (pos 0)) (search rules)) at c.mark_if.ensures in
    filling-on l.invariant more
    (λ a b. pair-split (is_at c.args.places.now a) c.args.relevant.now l.k pairs (2 * l.k) (omega (arith, c.loop-k-test.true)) (omega arith) (any (is_place b) c.args.heads.now))

pub returns : goal.returns
returns c =
    let l = c.loop-k in
    filling-end l.invariant (λ a b. rw (pair-none c.args.pairs.now (2 * l.k) (omega (arith, c.loop-k-test.false))) refl)
