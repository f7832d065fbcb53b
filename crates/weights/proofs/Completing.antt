-- Laws on what completes some chosen literals: with the next one, without it, and where nothing more can.
-- Assumes nothing.
use mathlib.Core.Path.{◌≡◌, refl, ap, ◌∙◌}
use mathlib.Core.Bool.{Bool, true, false, cond, ◌&&◌, and-true}
use mathlib.Core.List.Memᴰ
use mathlib.Core.List.{List, [], ◌∷◌, ◌++◌, map, map-append}
use Prim.Native.Nat.{ℕ, ◌+◌, ◌<◌, ◌≤◌, min}
use native.Mathlib.Nat.{add-zero}
use native.Mathlib.Omega.{arith}
use lib.Dec.{leb, ltb}
use lib.IntN.{ℤ}
use Rattle.words.specs.Lists.{◌∈◌, filter}
use Rattle.words.proofs.Lists.{Decides, and-decides, all-decides, leb-decides, same_test, passed, failed, not-decides}
use Rattle.weights.specs.Weights.{Weighted, sum, literals, sublists, is_minimal, minimal_sets, bodies, most_sum}
use Rattle.weights.specs.Completing.{completes, ends, no_least}
use Rattle.weights.proofs.Sublists.{filter-append, filter_same, filter_none, filter_map, is-sublist, sum-le}
use Rattle.weights.proofs.Minimal.{ltb-decides, parts}

-- the literals of lists that start with x
with-literal : (x : Weighted) (ss : List (List Weighted)) → map literals (map (λ s. x ∷ s) ss) ≡ map (λ t. x.literal ∷ t) (map literals ss)
with-literal x [] = refl
with-literal x (s ∷ ss) = ap (λ (ts : List (List ℤ)). (x.literal ∷ literals s) ∷ ts) (with-literal x ss)

-- What completes

abbrev Completes : ℕ → ℕ → ℕ → List Weighted → Type 0
Completes b k m s = (b ≤ k + sum s) × ((k + sum s < b + m) × ((x : Weighted) → x ∈ s → k + sum s < b + x.weight))

completes-decides : (b k m : ℕ) (s : List Weighted) → Decides (completes b k m s) (Completes b k m s)
completes-decides b k m s =
    and-decides (leb-decides b (k + sum s))
    (and-decides (ltb-decides (k + sum s) (b + m)) (all-decides (λ x. ltb-decides (k + sum s) (b + x.weight)) s))

-- the first of them is chosen too
completes-first : (b k m : ℕ) (x : Weighted) (s : List Weighted) → completes b k m (x ∷ s) ≡ completes b (k + x.weight) (min m x.weight) s
completes-first b k m x s = same_test (completes-decides b k m (x ∷ s)) (completes-decides b (k + x.weight) (min m x.weight) s) to from
  where
    to : Completes b k m (x ∷ s) → Completes b (k + x.weight) (min m x.weight) s
    to p = (omega (arith, p.0), (omega (arith, p.1.0, p.1.1 x (Memᴰ.head refl)), λ y i. omega (arith, p.1.1 y (Memᴰ.tail i))))

    each : Completes b (k + x.weight) (min m x.weight) s → {y : Weighted} → y ∈ x ∷ s → k + sum (x ∷ s) < b + y.weight
    each p (Memᴰ.head e) = rw e (omega (arith, p.1.0))
    each p {y} (Memᴰ.tail i) = omega (arith, p.1.1 y i)

    from : Completes b (k + x.weight) (min m x.weight) s → Completes b k m (x ∷ s)
    from p = (omega (arith, p.0), (omega (arith, p.1.0), λ y i. each p i))

-- nothing is chosen yet
completes-all : (b : ℕ) (s : List Weighted) → sum s ≤ most_sum → is_minimal b s ≡ completes b 0 no_least s
completes-all b s h =
    same_test (parts b s) (completes-decides b 0 no_least s)
    (λ p. (omega (arith, p.0), (omega arith, λ x i. omega (arith, p.1 x i))))
    (λ p. (omega (arith, p.0), λ x i. omega (arith, p.1.1 x i)))

module _ (b k m : ℕ) where
  not-completing : (s : List Weighted) → ¬ (Completes b k m s) → completes b k m s ≡ false
  not-completing s f = failed _ ((not-decides (completes-decides b k m s)).from f)

  -- nothing is left
  pub ends-empty : ends b k m [] ≡ cond (leb b k && ltb k (b + m)) ([] ∷ []) []
  unfolding ends sublists
  ends-empty = go (completes b k m []) ∙ ap (λ (t : Bool). cond t ([] ∷ []) []) bare
    where
      go : (t : Bool) → map literals (cond t ([] ∷ []) []) ≡ cond t ([] ∷ []) []
      go true = refl
      go false = refl

      bare : completes b k m [] ≡ (leb b k && ltb k (b + m))
      bare = rw (add-zero k, and-true)

  -- the next one is chosen, or not
  pub ends_next : (x : Weighted) (l : List Weighted)
      → ends b k m (x ∷ l) ≡ map (λ t. x.literal ∷ t) (ends b (k + x.weight) (min m x.weight) l) ++ ends b k m l
  unfolding ends sublists
  ends_next x l =
      ap (map literals) (filter-append (completes b k m) (map (λ s. x ∷ s) (sublists l)) (sublists l))
      ∙ map-append literals (filter (completes b k m) (map (λ s. x ∷ s) (sublists l))) (filter (completes b k m) (sublists l))
      ∙ ap (λ (ts : List (List ℤ)). ts ++ ends b k m l)
      (ap (map literals) (filter_map (λ s. x ∷ s) (completes b k m) (sublists l)
      ∙ ap (map (λ s. x ∷ s))
      (filter_same (λ s. completes b k m (x ∷ s)) (completes b (k + x.weight) (min m x.weight)) (sublists l) (λ s i. completes-first b k m x s)))
      ∙ with-literal x (filter (completes b (k + x.weight) (min m x.weight)) (sublists l)))

  -- where the weights that are left do not reach the bound
  pub ends-short : (l : List Weighted) → k + sum l < b → ends b k m l ≡ []
  unfolding ends
  ends-short l h =
      ap (map literals) (filter_none (completes b k m) (sublists l) (λ s i. not-completing s (λ p. omega (arith, p.0, sum-le (is-sublist l i)))))

  -- where the chosen ones without the lightest reach it, or the lightest weighs nothing
  pub ends-heavy : (l : List Weighted) → ((t : ℕ) → b ≤ k + t → ¬ (k + t < b + m)) → ends b k m l ≡ []
  unfolding ends
  ends-heavy l h = ap (map literals) (filter_none (completes b k m) (sublists l) (λ s i. not-completing s (λ p. h (sum s) p.0 p.1.0)))

-- once the bound is reached nothing more is chosen
pub ends-reached : (b k m : ℕ) (l : List Weighted) → b ≤ k → ends b k m l ≡ cond (ltb k (b + m)) ([] ∷ []) []
ends-reached b k m [] h = ends-empty b k m ∙ ap (λ (t : Bool). cond (t && ltb k (b + m)) ([] ∷ []) []) ((passed (leb b k)).to ((leb-decides b k).from h))
ends-reached b k m (x ∷ l) h =
    ends_next b k m x l
    ∙ ap (λ (ts : List (List ℤ)). map (λ t. x.literal ∷ t) ts ++ ends b k m l)
    (ends-heavy b (k + x.weight) (min m x.weight) l (λ t i j. omega arith))
    ∙ ends-reached b k m l h

-- the bodies are what completes nothing
pub bodies-ends : (b : ℕ) (l : List Weighted) → sum l ≤ most_sum → bodies b l ≡ ends b 0 no_least l
unfolding ends bodies minimal_sets
bodies-ends b l h =
    ap (map literals)
    (filter_same (is_minimal b) (completes b 0 no_least) (sublists l) (λ s i. completes-all b s (omega (arith, sum-le (is-sublist l i)))))
