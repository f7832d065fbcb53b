use mathlib.Core.Path.{◌≡◌}
use lib.ListN.{length, get_or}
use Rattle.aspif.specs.Tables.{starts_at}
use Rattle.heads.specs.Heads.{start_of, headed_to, Entered}
use Rattle.heads.proofs.Starts.{At}
use Rattle.heads.proofs.fill.Given as goal

abbrev pub invariant-loop-k : goal.invariant-loop-k
invariant-loop-k l =
    let k = l.k-iterator.count in
    At l.table l.rules k (starts_at l.k-iterator.iter.left l.k-iterator.iter.words.now)
    × (l.at ≡ start_of k l.table)
    × (l.n ≡ length (headed_to k l.table))
    × Entered l.index l.table k
    × (get_or l.index 0 0 ≡ 0)
    × (length l.index ≡ length l.initial.index)
