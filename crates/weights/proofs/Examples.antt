-- Worked bodies, computed. Assumes nothing.
use mathlib.Core.Path.{◌≡◌, refl}
use mathlib.Core.List.{List, [], ◌∷◌}
use Prim.Native.Nat.{ℕ}
use lib.IntN.{ℤ, pos, negsuc}
use lib.ListN.{length}
use Rattle.weights.specs.Weights.{Weighted, sublists, minimal_sets, bodies}

abbrev w : ℤ → ℕ → Weighted
w z n = record { literal = z; weight = n }

-- bound 3 of 2=2, 3=2, 4=1
three : bodies 3 (w (pos 2) 2 ∷ w (pos 3) 2 ∷ w (pos 4) 1 ∷ []) ≡ (pos 2 ∷ pos 3 ∷ []) ∷ (pos 2 ∷ pos 4 ∷ []) ∷ (pos 3 ∷ pos 4 ∷ []) ∷ []
unfolding bodies minimal_sets sublists
three = refl

-- bound 3 of 2=3, -3=2, 4=1
two : bodies 3 (w (pos 2) 3 ∷ w (negsuc 2) 2 ∷ w (pos 4) 1 ∷ []) ≡ (pos 2 ∷ []) ∷ (negsuc 2 ∷ pos 4 ∷ []) ∷ []
unfolding bodies minimal_sets sublists
two = refl

-- bound 2 of 2=2, 3=0; bound 5 of 2=2, 3=2; bound 0
weightless : bodies 2 (w (pos 2) 2 ∷ w (pos 3) 0 ∷ []) ≡ (pos 2 ∷ []) ∷ []
unfolding bodies minimal_sets sublists
weightless = refl

unreached : bodies 5 (w (pos 2) 2 ∷ w (pos 3) 2 ∷ []) ≡ []
unfolding bodies minimal_sets sublists
unreached = refl

nothing : bodies 0 (w (pos 2) 2 ∷ []) ≡ [] ∷ []
unfolding bodies minimal_sets sublists
nothing = refl

-- 12 literals of weight 1, bound 6
twelve : List Weighted
twelve =
    w (pos 1) 1 ∷ w (pos 2) 1 ∷ w (pos 3) 1 ∷ w (pos 4) 1 ∷ w (pos 5) 1 ∷ w (pos 6) 1
    ∷ w (pos 7) 1 ∷ w (pos 8) 1 ∷ w (pos 9) 1 ∷ w (pos 10) 1 ∷ w (pos 11) 1 ∷ w (pos 12) 1 ∷ []

many : length (bodies 6 twelve) ≡ 924
unfolding bodies minimal_sets sublists twelve
many = refl
