-- `MinimalSets` of specs/Claims.antt, and what it says of bodies.
-- Assumes nothing.
use mathlib.Core.Path.{◌≡◌, ap}
use mathlib.Core.List.Memᴰ
use mathlib.Core.List.{List}
use Prim.Native.Nat.{ℕ, ◌+◌, ◌<◌, ◌≤◌}
use native.Mathlib.Omega.{arith}
use lib.Dec.{T, ltb, ltb→lt, lt→ltb}
use lib.IntN.{ℤ}
use lib.ListN.{length}
use Rattle.words.specs.Lists.{◌∈◌, filter}
use Rattle.words.proofs.Lists.{Decides, reworded, and-decides, all-decides, leb-decides, keep→, keep←}
use Rattle.weights.specs.Weights.{Weighted, sum, literals, sublists, is_minimal, minimal_sets, bodies}
use Rattle.weights.specs.Claims.{◌⊑◌, Minimal, MinimalSets}
use Rattle.weights.proofs.Sublists.{listed, is-sublist, lacks, lighter}

pub ltb-decides : (m n : ℕ) → Decides (ltb m n) (m < n)
ltb-decides m n = record { to = ltb→lt m n; from = lt→ltb m n }

-- the test, part by part
pub parts : (b : ℕ) (s : List Weighted) → Decides (is_minimal b s) ((b ≤ sum s) × ((x : Weighted) → x ∈ s → sum s < b + x.weight))
parts b s = and-decides (leb-decides b (sum s)) (all-decides (λ x. ltb-decides (sum s) (b + x.weight)) s)

-- and what it says
pub minimal-decides : (b : ℕ) (s : List Weighted) → Decides (is_minimal b s) (Minimal b s)
minimal-decides b s = reworded to from (parts b s)
  where
    to : (b ≤ sum s) × ((x : Weighted) → x ∈ s → sum s < b + x.weight) → Minimal b s
    to p = record { reaches = p.0; least = λ t h n k. let r = lacks h n in omega (arith, r.2, p.1 r.0 r.1) }

    from : Minimal b s → (b ≤ sum s) × ((x : Weighted) → x ∈ s → sum s < b + x.weight)
    from m = (m.reaches, λ x i. less x i)
      where
        less : (x : Weighted) → x ∈ s → sum s < b + x.weight
        less x i =
            let r = lighter i in
            let short : ¬ (b ≤ sum r.rest) = m.least r.rest r.part (λ e. omega (arith, r.shorter, ap length e)) in
            omega (arith, r.weighs, short)

pub minimal-sets : MinimalSets
minimal-sets b l s = (
  λ m. let r = keep→ (is_minimal b) (sublists l) m in (is-sublist l r.0, (minimal-decides b s).to r.1),
  λ p. keep← (is_minimal b) (listed p.0) ((minimal-decides b s).from p.1),
)

-- a body is the literals of a minimal sublist
module _ (b : ℕ) (l : List Weighted) where
  pub body→ : {t : List ℤ} → t ∈ bodies b l → (s : List Weighted) × (s ⊑ l) × T (is_minimal b s) × (literals s ≡ t)
  unfolding bodies minimal_sets
  body→ i =
      let r = Memᴰ.of_map literals (filter (is_minimal b) (sublists l)) i in
      let k = keep→ (is_minimal b) (sublists l) r.1 in
      (r.0, is-sublist l k.0, k.1, r.2)

  pub body← : {s : List Weighted} → s ⊑ l → T (is_minimal b s) → literals s ∈ bodies b l
  unfolding bodies minimal_sets
  body← h t = Memᴰ.map literals (keep← (is_minimal b) (listed h) t)
