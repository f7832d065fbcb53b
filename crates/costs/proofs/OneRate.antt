-- How far one changed cost moves the least total. Assumes nothing.
use mathlib.Core.Path.{refl}
use mathlib.Core.Logic.{inl, inr}
use mathlib.Core.List.{List}
use Prim.Native.Nat.{ℕ, zero, suc, ◌+◌, ◌≤◌, ◌<◌}
use native.Mathlib.Omega.{arith}
use Rattle.weights.specs.Claims.{Reorder}
use Rattle.weights.proofs.Reordered.{and-back}
use Rattle.aspif.specs.Rules.{Rule}
use Rattle.aspif.specs.AnswerSets.{AnswerSet}
use Rattle.costs.specs.Costs.{Cost, Costs}
use Rattle.costs.specs.OneRate.{Least, Differ, here, later, OneRate, OneRateReordered, LeastUnique, LeastExists}
use Rattle.costs.proofs.Sums.{cost-decided, cost-reordered}

-- what a set costs under the one list, it costs within D under the other
moved : (M : ℕ → Type 0) {ks js : List Cost} {D : ℕ} → Differ ks js D → (c : ℕ) → Costs M ks c → (e : ℕ) × (Costs M js e × ((c ≤ e + D) × (e ≤ c + D)))
moved M (here l w u D ks p q) c (inl (h, (d, e, r))) = (u + d, (inl (h, (d, refl, r)), (omega (arith, e, p), omega (arith, e, q))))
moved M (here l w u D ks p q) c (inr (n, r)) = (c, (inr (n, r), (omega arith, omega arith)))
moved M (later k d) c (inl (h, (b, e, r))) =
    let s = moved M d b r in
    (k.weight + s.0, (inl (h, (s.0, refl, s.1.0)), (omega (arith, e, s.1.1.0), omega (arith, e, s.1.1.1))))
moved M (later k d) c (inr (n, r)) = let s = moved M d c r in (s.0, (inr (n, s.1.0), s.1.1))

back : {ks js : List Cost} {D : ℕ} → Differ ks js D → Differ js ks D
back (here l w u D ks p q) = here l u w D ks q p
back (later k d) = later k (back d)

pub one-rate : OneRate
one-rate P ks js D C E d a b = (one P js ks D C E (back d) a b, one P ks js D E C d b a)
  where
    -- what is least under the one list is at most D above what some answer set costs under the other
    one : (P : List Rule) (js ks : List Cost) (D C E : ℕ) → Differ js ks D → Least P ks C → Least P js E → C ≤ E + D
    one P js ks D C E d a b =
        let s = moved b.0.0 d E b.0.1.1 in
        let t = a.1 b.0.0 b.0.1.0 s.0 s.1.0 in
        omega (arith, t, s.1.1.1)

-- a least total is one under the list in any other order
least-reordered : (P : List Rule) {ks js : List Cost} (C : ℕ) → Reorder ks js → Least P ks C → Least P js C
least-reordered P {ks} {js} C r a =
    ((a.0.0, (a.0.1.0, cost-reordered a.0.0 ks js C r a.0.1.1)), λ M S c k. a.1 M S c (cost-reordered M js ks c (and-back r) k))

pub one-rate-reordered : OneRateReordered
one-rate-reordered P ks is js D C E d r a b = one-rate P ks is D C E d a (least-reordered P E (and-back r) b)

pub least-unique : LeastUnique
least-unique P ks C E a b =
    let p = a.1 b.0.0 b.0.1.0 E b.0.1.1 in
    let q = b.1 a.0.0 a.0.1.0 C a.0.1.1 in
    omega (arith, p, q)

pub least-exists : LeastExists
least-exists P ks M S f = cost-decided M ks (λ r. down (suc r.0) r.0 (omega arith) M S r.1 f)
  where
    not-less : (a b : ℕ) → ¬ (b < a) → a ≤ b
    not-less a b f = omega (arith, f)

    down : (n c : ℕ) → c < n → (M : ℕ → Type 0) → AnswerSet M P → Costs M ks c → ¬ (¬ ((C : ℕ) × Least P ks C))
    down zero c h M S k none = absurd (omega (arith, h))
    down (suc n) c h M S k none = none (c, ((M, (S, k)), λ N U e l. not-less c e (λ p. down n e (omega (arith, p, h)) N U l none)))
