-- What a set costs: one number at most, not not one, and of a listed set the computed one. Assumes nothing.
use mathlib.Core.Path.{◌≡◌, refl, sym, ◌∙◌}
use mathlib.Core.Logic.{inl, inr}
use mathlib.Core.Bool.{Bool, true, false, cond}
use mathlib.Core.List.Memᴰ
use mathlib.Core.List.{List, [], ◌∷◌}
use Prim.Native.Nat.{ℕ, suc, ◌+◌, ◌≤◌}
use native.Mathlib.Omega.{arith}
use lib.IntN.{ℤ, pos, negsuc}
use Rattle.words.specs.Lists.{◌∈◌, filter}
use Rattle.words.proofs.Lists.{Decides, not-decides, each-cons}
use Rattle.weights.specs.Weights.{sum}
use Rattle.weights.specs.Claims.{◌⊑◌, none, with_it, without, nothing, first-stays, exchange, one_more}
use Rattle.marks.specs.Marks.{listed}
use Rattle.answer_set.specs.SetTest.{literal_holds}
use Rattle.answer_set.specs.Claims.{Listed}
use Rattle.answer_set.proofs.Answered.{listed-decides}
use Rattle.costs.specs.Costs.{Cost, total, Holds, Costs}
use Rattle.costs.specs.Claims.{CostUnique, CostDecided, CostListed, CostReordered}

pub cost-unique : CostUnique
cost-unique M [] c d p q = p ∙ sym q
cost-unique M (k ∷ ks) c d (inl p) (inl q) = omega (arith, p.1.1, q.1.1, cost-unique M ks p.1.0 q.1.0 p.1.2 q.1.2)
cost-unique M (k ∷ ks) c d (inl p) (inr q) = absurd (q.0 p.0)
cost-unique M (k ∷ ks) c d (inr p) (inl q) = absurd (p.0 q.0)
cost-unique M (k ∷ ks) c d (inr p) (inr q) = cost-unique M ks c d p.1 q.1

pub cost-decided : CostDecided
cost-decided M [] f = f (0, refl)
cost-decided M (k ∷ ks) f = cost-decided M ks (λ r. undecided r (λ h. f (k.weight + r.0, inl (h, (r.0, refl, r.1)))))
  where
    undecided : (r : (c : ℕ) × Costs M ks c) → ¬ Holds M k.literal → ⊥
    undecided r n = f (r.0, inr (n, r.1))

-- A set that is decided costs what is computed

module _ (M : ℕ → Bool) (W : ℕ → Type 0) (dec : (v : ℕ) → Decides (M v) (W v)) where
  pub holds-decides : (z : ℤ) → Decides (literal_holds M M z) (Holds W z)
  holds-decides (pos v) = dec v
  holds-decides (negsuc n) = not-decides (dec (suc n))

  pub costs-total : (ks : List Cost) → Costs W ks (total M ks)
  costs-total [] = refl
  costs-total (k ∷ ks) = go (literal_holds M M k.literal) (holds-decides k.literal) (costs-total ks)
    where
      rest : List Cost
      rest = filter (λ x. literal_holds M M x.literal) ks

      go : (b : Bool) → Decides b (Holds W k.literal) → Costs W ks (sum rest) → Costs W (k ∷ ks) (sum (cond b (k ∷ rest) rest))
      go true d p = inl (d.to tt, (sum rest, refl, p))
      go false d p = inr (λ h. d.from h, p)

pub cost-listed : CostListed
cost-listed l ks c =
    let p = costs-total (listed l) (Listed l) (listed-decides l) ks in
    (λ q. cost-unique (Listed l) ks c (total (listed l) ks) q p, λ e. rw e p)

-- Another order

pub cost-reordered : CostReordered
cost-reordered M _ _ c nothing p = p
cost-reordered M _ _ c (first-stays {l = ks} {m = js} r) (inl p) = inl (p.0, (p.1.0, p.1.1, cost-reordered M ks js p.1.0 r p.1.2))
cost-reordered M _ _ c (first-stays {l = ks} {m = js} r) (inr p) = inr (p.0, cost-reordered M ks js c r p.1)
cost-reordered M _ _ c (exchange {x = k} {y = j} {l = ks}) p = swap p
  where
    swap : Costs M (k ∷ j ∷ ks) c → Costs M (j ∷ k ∷ ks) c
    swap (inl (h, (d, e, inl (i, (b, f, r))))) = inl (i, (k.weight + b, omega (arith, e, f), inl (h, (b, refl, r))))
    swap (inl (h, (d, e, inr (n, r)))) = inr (n, inl (h, (d, e, r)))
    swap (inr (n, inl (i, (b, f, r)))) = inl (i, (b, f, inr (n, r)))
    swap (inr (n, inr (m, r))) = inr (m, inr (n, r))
cost-reordered M ks js c (one_more {m = is} r q) p = cost-reordered M is js c q (cost-reordered M ks is c r p)

-- Sums over a part of the literals

-- literals that all hold cost no more than the set does
pub paid : (M : ℕ → Type 0) {s ks : List Cost} (c : ℕ) → s ⊑ ks → ((k : Cost) → k ∈ s → Holds M k.literal) → Costs M ks c → sum s ≤ c
paid M c none h p = omega arith
paid M c (with_it {x = k} s) h (inl p) = omega (arith, p.1.1, paid M p.1.0 s (λ j i. h j (Memᴰ.tail i)) p.1.2)
paid M c (with_it {x = k} s) h (inr p) = absurd (p.0 (h k (Memᴰ.head refl)))
paid M c (without {x = k} s) h (inl p) = omega (arith, p.1.1, paid M p.1.0 s h p.1.2)
paid M c (without {x = k} s) h (inr p) = paid M c s h p.1

-- the literals that hold, which cost just what the set does
pub record Held (M : ℕ → Type 0) (ks : List Cost) (c : ℕ) : Type 0 where
  pub part : List Cost
  pub of : part ⊑ ks
  pub hold : (k : Cost) → k ∈ part → Holds M k.literal
  pub cost : sum part ≡ c

pub held : (M : ℕ → Type 0) (ks : List Cost) (c : ℕ) → Costs M ks c → Held M ks c
held M [] c p = record { part = []; of = none; hold = λ k i. elim i [ ]; cost = sym p }
held M (k ∷ ks) c (inl p) =
    let r = held M ks p.1.0 p.1.2 in
    record { part = k ∷ r.part; of = with_it r.of; hold = each-cons p.0 r.hold; cost = omega (arith, p.1.1, r.cost) }
held M (k ∷ ks) c (inr p) =
    let r = held M ks c p.1 in
    record { part = r.part; of = without r.of; hold = r.hold; cost = r.cost }
