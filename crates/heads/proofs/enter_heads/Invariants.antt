use mathlib.Core.Path.{◌≡◌}
use mathlib.Core.Logic.{◌⊎◌}
use mathlib.Core.List.{List, ◌++◌, map}
use Prim.Native.Nat.{ℕ, ◌≤◌, ◌<◌}
use lib.ListN.{length, take, get_or}
use Rattle.heads.specs.Heads.{first_at, bucket_at, Headed, headed_by, HeadChains}
use Rattle.heads.proofs.enter_heads.Given as goal

abbrev pub invariant-loop-j : goal.invariant-loop-j
invariant-loop-j l =
    ((es : List Headed) → HeadChains l.initial.index es → length es ≡ l.n → HeadChains l.index (es ++ map (headed_by l.k) (take l.j l.heads)))
    × ((i : ℕ) → (i < first_at) ⊎ (bucket_at ≤ i) → get_or l.index i 0 ≡ get_or l.initial.index i 0)
