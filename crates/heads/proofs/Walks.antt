-- A walk along a descending chain: each member of the key is ahead of it or done with.
-- Assumes nothing.
use mathlib.Core.Path.{◌≡◌, refl, sym, ◌∙◌}
use mathlib.Core.Logic.{◌⊎◌, inl, inr}
use mathlib.Core.List.{List}
use Prim.Native.Nat.{ℕ, zero, suc, ◌+◌, ◌≤◌, ◌<◌}
use native.Mathlib.Numerals.{add-one}
use native.Mathlib.Omega.{arith}
use lib.ListN.{length, get_or, set, length-set}
use Rattle.words.specs.Descending.{Descends, Changed}
use Rattle.words.proofs.Places.{equal?}
use Rattle.words.proofs.Descending.{changed, unchanged, entered}

-- the entry p comes next
module _ (M S : ℕ → ℕ → Type 0) (key : ℕ) (Done : ℕ → Type 0) where
  pub record Walk (p : ℕ) : Type 0 where
    pub seen : (x : ℕ) → M x key → (x < p) ⊎ Done x
    pub ahead : (q : ℕ) → p ≡ suc q → S q key

module _ {keys places : ℕ} {M S : ℕ → ℕ → Type 0} {bucket before : ℕ → ℕ} (D : Descends keys places M S bucket before) {key : ℕ} where
  pub walk_from : {Done : ℕ → Type 0} → key < keys → {p : ℕ} → p ≡ bucket key → Walk M S key Done p
  walk_from b e = record { seen = λ x m. inl (omega (arith, D.top x key m, e)); ahead = λ q f. D.first key q b (sym e ∙ f) }

  module _ {Done : ℕ → Type 0} {p q : ℕ} (w : Walk M S key Done p) (is : p ≡ suc q) where
    pub next-less : before q < p
    next-less = by (before q) refl
      where
        by : (r : ℕ) → before q ≡ r → r < p
        by zero e = omega (arith, is)
        by (suc r) e = omega (arith, (D.next q key r (w.ahead q is) e).1, is)

    pub walk-on : {Done' : ℕ → Type 0} {r : ℕ} → r ≡ before q → ((x : ℕ) → Done x → Done' x) → (M q key → Done' q) → Walk M S key Done' r
    walk-on {Done'} {r} f keep new = record {
      seen = λ x m. elim (w.seen x m) [
        | inl l ↦ elim (equal? x q) [
          | inl e ↦ inr (rw e (new (rw e at m)))
          | inr d ↦ inl (omega (arith, D.down x q key m (w.ahead q is) (omega (arith, l, is, d)), f))
        ]
        | inr o ↦ inr (keep x o)
      ];
      ahead = λ u e. (D.next q key u (w.ahead q is) (sym f ∙ e)).0;
    }

-- nothing is ahead
pub walk_end : {M S : ℕ → ℕ → Type 0} {key : ℕ} {Done : ℕ → Type 0} {p : ℕ} → Walk M S key Done p → p ≤ 0 → (x : ℕ) → M x key → Done x
walk_end w h x m = elim (w.seen x m) [ inl l ↦ absurd (omega arith) | inr o ↦ o ]

-- Chains in an array

abbrev pub linked : List ℕ → ℕ → ℕ → ℕ → ℕ → List ℕ
linked l first next key x = set (set l (next + x) (get_or l (first + key) 0)) (first + key) (x + 1)

-- one more place, on top of the chain of its key
module _ (l : List ℕ) (first next keys places : ℕ) (apart : first + keys ≤ next) {M S M' S' : ℕ → ℕ → Type 0}
    (D : Descends keys places M S (λ k. get_or l (first + k) 0) (λ y. get_or l (next + y) 0))
    (x key : ℕ) (above : (y k : ℕ) → S y k → y < x)
    (members : (y k : ℕ) → M' y k → M y k ⊎ ((y ≡ x) × (k ≡ key)))
    (old : (y k : ℕ) → S y k → S' y k) (new : S' x key)
    (either : (y k : ℕ) → S' y k → S y k ⊎ ((y ≡ x) × (k ≡ key)))
    (xb : x < places) (kb : key < keys) (long : next + places ≤ length l) where
  pub link-entered : Descends keys places M' S' (λ k. get_or (linked l first next key x) (first + k) 0) (λ y. get_or (linked l first next key x) (next + y) 0)
  link-entered = rw add-one (entered D x key above members old new either xb kb buckets befores)
    where
      m : List ℕ
      m = set l (next + x) (get_or l (first + key) 0)

      buckets : Changed keys (λ k. get_or l (first + k) 0) (λ k. get_or (set m (first + key) (suc x)) (first + k) 0) key (suc x)
      buckets k h = elim (changed m first keys key (suc x) (omega (arith, length-set l (next + x) (get_or l (first + key) 0), long, apart)) k h) [
        | inl s ↦ inl s
        | inr s ↦ inr (s.0, s.1 ∙ unchanged l first keys (next + x) (get_or l (first + key) 0) (inr (omega arith)) k h)
      ]

      befores : Changed places (λ y. get_or l (next + y) 0) (λ y. get_or (set m (first + key) (suc x)) (next + y) 0) x (get_or l (first + key) 0)
      befores y h =
          let u = unchanged m next places (first + key) (suc x) (inl (omega arith)) y h in
          elim (changed l next places x (get_or l (first + key) 0) (omega arith) y h) [
            | inl s ↦ inl (s.0, u ∙ s.1)
            | inr s ↦ inr (s.0, u ∙ s.1)
          ]
