use Prim.Native.Nat.{ℕ, ◌<◌}
use lib.IntN.{pos}
use lib.ListN.{get_or}
use Rattle.words.specs.Literals.{variable}
use Rattle.heads.specs.Heads.{HasHead, Collected}
use Rattle.heads.proofs.Externals.{Got}
use Rattle.heads.proofs.gather_all.Given as goal

abbrev pub invariant-loop-atom : goal.invariant-loop-atom
invariant-loop-atom l =
    Collected l.table l.rules l.names l.inside l.row l.count
    × ((j : ℕ) → j < l.atom-index → (k : ℕ) → HasHead l.table l.rules (variable (get_or l.atoms j (pos 0))) k → Got l.table l.rules l.names l.inside l.row l.count k)
