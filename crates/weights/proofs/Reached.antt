-- `Reached` of specs/Claims.antt. From a sum that reaches the bound to a minimal set: leave out, from the left, each element
-- without which the rest still reaches it; one that could not go when more was there cannot go when less is.
-- Assumes nothing.
use mathlib.Core.Logic.{inl, inr}
use mathlib.Core.Bool.{Bool}
use mathlib.Core.List.Memᴰ
use mathlib.Core.List.{List, [], ◌∷◌}
use Prim.Native.Nat.{ℕ, ◌+◌, ◌<◌, ◌≤◌}
use native.Mathlib.Omega.{arith}
use lib.Dec.{T, leb}
use lib.IntN.{ℤ}
use Rattle.words.specs.Lists.{◌∈◌, any, all, filter}
use Rattle.words.proofs.Lists.{Decides, itself, answered, same_test, not-decides, any-decides, all-decides, leb-decides, keep→}
use Rattle.weights.specs.Weights.{Weighted, sum, literals, is_minimal, bodies}
use Rattle.weights.specs.Claims.{◌⊑◌, none, with_it, without, Reached}
use Rattle.weights.proofs.Sublists as sub
use Rattle.weights.proofs.Minimal.{parts, body→, body←}

-- a sublist of l that, beside what weighs k, reaches the bound, and none of whose elements could be left out
pub record Trimmed (b k : ℕ) (l : List Weighted) : Type 0 where
  pub part : List Weighted
  pub of : part ⊑ l
  pub reaches : b ≤ k + sum part
  pub needed : (x : Weighted) → x ∈ part → k + sum part < b + x.weight

-- the first element can go, or stays
module _ {b k : ℕ} {y : Weighted} {l : List Weighted} where
  goes : Trimmed b k l → Trimmed b k (y ∷ l)
  goes r = record { part = r.part; of = without r.of; reaches = r.reaches; needed = r.needed }

  stays : ¬ (b ≤ k + sum l) → Trimmed b (k + y.weight) l → Trimmed b k (y ∷ l)
  stays g r = record { part = y ∷ r.part; of = with_it r.of; reaches = omega (arith, r.reaches); needed = λ x m. each m }
    where
      each : {x : Weighted} → x ∈ y ∷ r.part → k + sum (y ∷ r.part) < b + x.weight
      each (Memᴰ.head p) = rw p (omega (arith, sub.sum-le r.of, g))
      each {x} (Memᴰ.tail m) = omega (arith, r.needed x m)

pub trim : (b k : ℕ) (l : List Weighted) → b ≤ k + sum l → Trimmed b k l
trim b k [] h = record { part = []; of = none; reaches = h; needed = λ x m. elim m [ ] }
trim b k (y ∷ l) h =
    elim (answered (leb b (k + sum l))) [
      | inl t ↦ goes (trim b k l ((leb-decides b (k + sum l)).to t))
      | inr t ↦ stays ((not-decides (leb-decides b (k + sum l))).to t) (trim b (k + y.weight) l (omega arith))
    ]

module _ (b : ℕ) (l : List Weighted) (holds : ℤ → Bool) where
  abbrev passes : Weighted → Bool
  passes x = holds x.literal

  abbrev Body : Type 0
  Body = (ls : List ℤ) × (ls ∈ bodies b l) × T (all holds ls)

  some-decides : Decides (any (λ ls. all holds ls) (bodies b l)) Body
  some-decides = any-decides (λ ls. itself (all holds ls)) (bodies b l)

  each-decides : (s : List Weighted) → Decides (all holds (literals s)) ((x : Weighted) → x ∈ s → T (passes x))
  each-decides s = rw (sub.all_map (λ x. x.literal) holds s) (all-decides (λ x. itself (passes x)) s)

  to : Body → b ≤ sum (filter passes l)
  to r =
      let s = body→ b l r.1 in
      let a : T (all holds (literals s.0)) = rw (← s.3) at r.2 in
      omega (arith, ((parts b s.0).to s.2).0, sub.sum-le (sub.kept_of passes s.1 ((each-decides s.0).to a)))

  from : b ≤ sum (filter passes l) → Body
  from h =
      let r = trim b 0 (filter passes l) (omega arith) in
      let m : T (is_minimal b r.part) = (parts b r.part).from (omega (arith, r.reaches), λ x n. omega (arith, r.needed x n)) in
      let i = body← b l (sub.through r.of (sub.kept passes l)) m in
      (literals r.part, i, (each-decides r.part).from (λ x n. (keep→ passes l (sub.in_whole n r.of)).1))

pub reached : Reached
reached b l holds = same_test (some-decides b l holds) (leb-decides b (sum (filter (passes b l holds) l))) (to b l holds) (from b l holds)
