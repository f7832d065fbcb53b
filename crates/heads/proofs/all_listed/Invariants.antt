use mathlib.Core.Path.{◌≡◌}
use mathlib.Core.Bool.{Bool, true, false}
use mathlib.Core.List.{List}
use Prim.Native.Nat.{ℕ}
use lib.IntN.{ℤ, pos}
use lib.ListN.{length, get_or}
use Rattle.words.specs.Literals.{variable}
use Rattle.heads.specs.Heads.{headed_to, headed_at, Place, HasHead, Hit}
use Rattle.heads.proofs.Walks.{Walk}
use Rattle.heads.proofs.all_listed.Given as goal

-- a hit number is the name of such a rule's body
abbrev pub Named : List ℤ → ℕ → List ℕ → ℕ → List ℤ → List Bool → Type 0
Named t rules names v ns hits = (j : ℕ) → get_or hits j false ≡ true → (k : ℕ) × HasHead t rules v k × (get_or names k 0 ≡ variable (get_or ns j (pos 0)))

abbrev pub invariant-loop-p : goal.invariant-loop-p
invariant-loop-p l =
    (length l.hits ≡ length l.initial.hits)
    × Walk (Place (headed_to l.rules l.table)) (Place (headed_to l.rules l.table)) l.v (λ x. Hit l.names l.listed l.hits (headed_at (headed_to l.rules l.table) x).rule) l.p
    × Named l.table l.rules l.names l.v l.listed l.hits

abbrev pub decreases-loop-p : goal.decreases-loop-p
decreases-loop-p l = l.p
