use mathlib.Core.Path.{◌≡◌}
use Prim.Native.Nat.{◌+◌}
use native.Mathlib.Omega.{arith}
use lib.ListN.{length-set}
use Rattle.heads.specs.Heads.{owner_at}
use Rattle.heads.proofs.Entering.{with_head, head-outside, head-entered}
use Rattle.heads.proofs.enter_head.Goals as goal

pub link-requires : goal.link-requires
link-requires c =
    let s = c in
    let l = length-set s.args.index.now (owner_at + s.args.n) s.args.k in
    (omega (arith, l, s.requires), omega (arith, l, s.requires), omega (arith, s.requires))

pub returns : goal.returns
returns c = let s = c in
    let a = s.args in
    let e : c.link.new.index ≡ with_head a.index.now a.v a.k a.n = c.link.ensures in record { chains = λ es H q. rw e (head-entered a.index.now a.v a.k a.n s.requires.0 s.requires.1 s.requires.3 es H q); others = λ i h. rw e (head-outside a.index.now a.v a.k a.n s.requires.0 s.requires.1 s.requires.3 i h) }
