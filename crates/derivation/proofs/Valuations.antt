-- Valuations of the variables: when a literal is true under one, when a name means its literals, and that propagation leads from
-- true literals to true literals. A valuation is any predicate on numbers, so truth is stated with double negations where a
-- decision would be needed. Assumes nothing.
use mathlib.Core.Path.{◌≡◌, refl, sym}
use mathlib.Core.Logic.{inl, inr, ◌↔◌, ◌≢◌}
use mathlib.Core.Bool.{cond}
use mathlib.Core.List.Memᴰ
use mathlib.Core.List.{List, [], ◌∷◌}
use Prim.Native.Nat.{ℕ, zero, suc}
use lib.Dec.{eqb}
use lib.IntN.{ℤ, pos, negsuc}
use Rattle.words.specs.Lists.{◌∈◌}
use Rattle.words.specs.Literals.{variable, complement, ascending}
use Rattle.words.proofs.Lists.{passed, failed, not-decides, eqb-decides, each-cons}
use Rattle.words.proofs.Literals.{ascending→, ascending←}
use Rattle.derivation.specs.Propagation.{Closure, given, unit, Conflict}
use Rattle.derivation.specs.Steps.{definition}

-- Literals

-- the literal is true; 0 is no literal, and counts as true
abbrev pub True : (ℕ → Type 0) → ℤ → Type 0
True W (pos zero) = Unit {0}
True W (pos (suc n)) = ¬ (¬ W (suc n))
True W (negsuc n) = ¬ W (suc n)

-- every literal of the list is true
abbrev pub All : (ℕ → Type 0) → List ℤ → Type 0
All W g = (x : ℤ) → x ∈ g → True W x

-- n means that every literal of L is true
abbrev pub Means : (ℕ → Type 0) → ℤ → List ℤ → Type 0
Means W n L = (True W n → All W L) × (True W (complement n) → ¬ All W L)

module _ (W : ℕ → Type 0) where
  pub never_both : (x : ℤ) → x ≢ pos 0 → True W x → True W (complement x) → ⊥
  never_both (pos zero) f t u = f refl
  never_both (pos (suc n)) f t u = t u
  never_both (negsuc n) f t u = u t

  true-unless : (x : ℤ) → ¬ True W (complement x) → True W x
  true-unless (pos zero) f = tt
  true-unless (pos (suc n)) f = f
  true-unless (negsuc n) f = λ w. f (λ k. k w)

  pub stable : (x : ℤ) → ¬ (¬ True W x) → True W x
  stable (pos zero) f = tt
  stable (pos (suc n)) f = λ k. f (λ t. t k)
  stable (negsuc n) f = λ w. f (λ t. t w)

  pub all-unsorted : (L : List ℤ) → All W (ascending L) → All W L
  all-unsorted L f x m = f x (ascending← L m)

  pub all-sorted : (L : List ℤ) → All W L → All W (ascending L)
  all-sorted L f x m = f x (ascending→ L m)

  pub means-of : (k : ℕ) (L : List ℤ) → W (suc k) ↔ All W L → Means W (pos (suc k)) L
  means-of k L e = (λ t x m. stable x (λ f. t (λ w. f (e.0 w x m))), λ t f. t (e.1 f))

  -- the nogoods of a definition do not hold where the name means its literals
  pub definition-false : (n : ℤ) (L : List ℤ) → ¬ (pos 0 ∈ L) → Means W n L → (g : List ℤ) → g ∈ definition n L → ¬ All W g
  definition-false n L z e g (Memᴰ.head p) h =
      let f : All W (complement n ∷ L) = all-unsorted (complement n ∷ L) (rw p at h) in
      e.1 (f (complement n) (Memᴰ.head refl)) (λ x m. f x (Memᴰ.tail m))
  definition-false n L z e g (Memᴰ.tail m) h =
      let r = Memᴰ.of_map (λ x. ascending (n ∷ complement x ∷ [])) (ascending L) m in
      go r.0 (ascending→ L r.1) (rw (← r.2) at h)
    where
      go : (x : ℤ) → x ∈ L → All W (ascending (n ∷ complement x ∷ [])) → ⊥
      go x m k =
          let f : All W (n ∷ complement x ∷ []) = all-unsorted (n ∷ complement x ∷ []) k in
          never_both x (λ p. z (Memᴰ.cast (sym p) m)) (e.0 (f n (Memᴰ.head refl)) x m) (f (complement x) (Memᴰ.tail (Memᴰ.head refl)))

  -- Propagation, from live nogoods that do not hold

  module _ (live : List (List ℤ)) (sound : (g : List ℤ) → g ∈ live → ¬ All W g) (L : List ℤ) (h : All W L) where
    pub closure-true : {x : ℤ} → Closure live L x → True W x
    closure-true (given m) = h _ m
    closure-true (unit {x = x} g m c f) = true-unless x (λ t. sound g m (λ k n. stable k (λ u. u (closure-true (f k n (λ p. u (rw p t)))))))

    -- the closure has no 0: a nogood with 0 whose other literals are true would hold
    closure-nonzero : ¬ (pos 0 ∈ L) → {x : ℤ} → Closure live L x → x ≢ pos 0
    closure-nonzero z (given m) p = z (Memᴰ.cast (sym p) m)
    closure-nonzero z (unit g m c f) p = sound g m (λ k n. stable k (λ u. u (closure-true (f k n (λ q. u (rw (q, p) tt))))))

    pub conflict-false : ¬ (pos 0 ∈ L) → Conflict live L → ⊥
    conflict-false z (inl r) = never_both r.0 (closure-nonzero z r.1) (closure-true r.1) (closure-true r.2)
    conflict-false z (inr m) = sound [] m (λ x n. elim n [ ])

-- Valuations that agree

-- truth of a literal goes by the value of its variable
pub true-agrees : (U W : ℕ → Type 0) (x : ℤ) → U (variable x) ≡ W (variable x) → True U x ≡ True W x
true-agrees U W (pos zero) p = refl
true-agrees U W (pos (suc n)) p = rw p
true-agrees U W (negsuc n) p = rw p

-- the valuation with another value at v
abbrev pub put : (ℕ → Type 0) → ℕ → Type 0 → ℕ → Type 0
put W v A n = cond (eqb n v) A (W n)

pub put-here : (W : ℕ → Type 0) (v : ℕ) (A : Type 0) → put W v A v ≡ A
put-here W v A = rw ((passed (eqb v v)).to ((eqb-decides v v).from refl))

pub put_other : (W : ℕ → Type 0) (v : ℕ) (A : Type 0) (n : ℕ) → n ≢ v → put W v A n ≡ W n
put_other W v A n f = rw (failed (eqb n v) ((not-decides (eqb-decides n v)).from f))

-- finitely many double negations, taken outside
module _ {A : Type 0} (R : A → Type 0) where
  pub shift : (l : List A) → ((x : A) → x ∈ l → ¬ (¬ R x)) → ¬ (¬ ((x : A) → x ∈ l → R x))
  shift [] f k = k (λ x m. elim m [ ])
  shift (y ∷ l) f k = shift l (λ x m. f x (Memᴰ.tail m)) (λ g. f y (Memᴰ.head refl) (λ r. k (each-cons r g)))
