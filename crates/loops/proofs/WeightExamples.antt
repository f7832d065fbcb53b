-- Worked weight bodies, computed: whether an atom stands in some plain body. Assumes nothing.
use mathlib.Core.Path.{◌≡◌, refl}
use mathlib.Core.Bool.{true, false}
use mathlib.Core.List.{[], ◌∷◌}
use Prim.Native.Nat.{ℕ}
use lib.IntN.{pos}
use Rattle.weights.specs.Weights.{Weighted, sublists, minimal_sets, bodies}
use Rattle.loops.specs.Relevance.{is_relevant}

abbrev w : ℕ → ℕ → Weighted
w v n = record { literal = pos v; weight = n }

-- bound 2 of 1=2, 2=1: {1} is the one minimal set
alone : is_relevant 2 (w 1 2 ∷ w 2 1 ∷ []) (pos 1) ≡ true
unfolding bodies minimal_sets sublists
alone = refl

not-needed : is_relevant 2 (w 1 2 ∷ w 2 1 ∷ []) (pos 2) ≡ false
unfolding bodies minimal_sets sublists
not-needed = refl

-- bound 3 of 1=1, 2=2: {1, 2} is the one minimal set
both : is_relevant 3 (w 1 1 ∷ w 2 2 ∷ []) (pos 1) ≡ true
unfolding bodies minimal_sets sublists
both = refl

-- weight 0; in no minimal set; a bound that is not reached; bound 0
weightless : is_relevant 1 (w 1 0 ∷ w 2 1 ∷ []) (pos 1) ≡ false
unfolding bodies minimal_sets sublists
weightless = refl

in-none : is_relevant 2 (w 1 1 ∷ w 2 2 ∷ []) (pos 1) ≡ false
unfolding bodies minimal_sets sublists
in-none = refl

unreached : is_relevant 9 (w 1 1 ∷ w 2 2 ∷ []) (pos 1) ≡ false
unfolding bodies minimal_sets sublists
unreached = refl

no_bound : is_relevant 0 (w 1 5 ∷ []) (pos 1) ≡ false
unfolding bodies minimal_sets sublists
no_bound = refl
