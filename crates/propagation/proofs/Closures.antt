-- What one nogood adds to the closure, and what an assignment from which nothing follows says of it.
-- Assumes nothing.
use mathlib.Core.Path.{◌≡◌, refl, sym, ap, ◌∙◌}
use mathlib.Core.Logic.{inl, inr}
use mathlib.Core.Bool.{false}
use mathlib.Core.List.Memᴰ
use mathlib.Core.List.{List, [], ◌∷◌}
use Prim.Native.Nat.{ℕ, suc, ◌≤◌, ◌<◌}
use native.Mathlib.Omega.{arith}
use lib.IntN.{ℤ}
use lib.ListN.{length, set, length-set}
use Rattle.words.specs.Lists.{◌∈◌}
use Rattle.words.specs.Literals.{variable, complement}
use Rattle.words.proofs.Literals.{complement-twice, variable-complement}
use Rattle.derivation.specs.Propagation.{Closure, given, unit, Conflict}
use Rattle.words.proofs.Places.{same?}
use Rattle.nogoods.specs.Store.{live}
use Rattle.nogoods.specs.Keeps.{Literals}
use Rattle.words.specs.Limits.{entries}
use Rattle.nogoods.specs.Records.{dead_at, nogood_at, Stands}
use Rattle.propagation.specs.Propagate.{entry, Assigns, Valued, free, Settled, AllTrue, Derives, InClosure, Grows, Clashes}
use Rattle.propagation.specs.declared.units.Value.TheVariants.{Free}
use Rattle.propagation.specs.declared.units.Derived.TheVariants.{Assigned}
use Rattle.nogoods.proofs.Live.{live_in}
use Rattle.propagation.proofs.Assignments.{positive-complement, not-both, assigned→, assigned-kept, assigned-fewer}

module _ (gs : List (List ℤ)) (L : List ℤ) (m : List ℕ) (w : InClosure gs L m) (g : List ℤ) (u : g ∈ gs) where
  -- the complement of a literal whose others are true
  unit-in : (z : ℤ) → z ∈ g → ((y : ℤ) → y ∈ g → ¬ (y ≡ z) → Assigns m y) → Closure gs L (complement z)
  unit-in z v f = unit g u (Memᴰ.cast (complement-twice z) v) (λ k i n. w k (f k i (λ e. n (e ∙ sym (complement-twice z)))))

  all_true : AllTrue m g → Conflict gs L
  all_true f = go g refl
    where
      go : (l : List ℤ) → g ≡ l → Conflict gs L
      go [] e = inr (rw e at u)
      go (x ∷ l) e = let v : x ∈ g = rw e (Memᴰ.head refl) in inl (x, w x (f x v), unit-in x v (λ y i n. f y i))

-- nothing follows from any live nogood: the assignment has the closure, and no conflict
module _ (gs : List (List ℤ)) (L : List ℤ) (m : List ℕ) (lits : (g : List ℤ) → g ∈ gs → Literals g) (start : Literals L)
    (base : (z : ℤ) → z ∈ L → Assigns m z) (settled : (g : List ℤ) → g ∈ gs → Settled m g) where
  closure-assigned : {x : ℤ} → Closure gs L x → (1 ≤ variable x) × Assigns m x
  closure-assigned (given {x = x} u) = (start.low x u, base x u)
  closure-assigned (unit {x = x} g u v f) = (positive, go (λ k i n. (closure-assigned (f k i n)).1) (settled g u))
    where
      positive : 1 ≤ variable x
      positive = rw (variable-complement x) at ((lits g u).low (complement x) v)

      -- a literal that is not true is the complement of x
      only : ((k : ℤ) → k ∈ g → ¬ (k ≡ complement x) → Assigns m k) → (y : ℤ) → y ∈ g → ¬ Assigns m y → y ≡ complement x
      only below y i n = elim (same? y (complement x)) [ inl e ↦ e | inr d ↦ absurd (n (below y i d)) ]

      go : ((k : ℤ) → k ∈ g → ¬ (k ≡ complement x) → Assigns m k) → Settled m g → Assigns m x
      go below (inl (z, i, a)) = rw (ap complement (only below z i (λ b. not-both m z ((lits g u).low z i) b a)) ∙ complement-twice x) at a
      go below (inr (y, z, i, j, d, a, b)) = absurd (d (only below y i a ∙ sym (only below z j b)))

  pub no-conflict : Conflict gs L → ⊥
  no-conflict (inl (x, a, b)) = not-both m x (closure-assigned a).0 (closure-assigned a).1 (closure-assigned b).1
  no-conflict (inr u) = elim (settled [] u) [ inl r ↦ Memᴰ.not-nil r.1 | inr r ↦ Memᴰ.not-nil r.2 ]

-- How the assignment grows

module _ {s : List ℤ} where
  pub grows-not : {m : List ℕ} → Grows s m m
  grows-not = record { sound = λ stored L h w. w; kept = λ z a. a; size = refl; fewer = omega arith }

  pub grows-on : {a b c : List ℕ} → Grows s a b → Grows s b c → Grows s a c
  grows-on p q = record {
    sound = λ stored L h w. q.sound stored L h (p.sound stored L h w);
    kept = λ z a. q.kept z (p.kept z a);
    size = q.size ∙ p.size;
    fewer = omega (arith, p.fewer, q.fewer);
  }

module _ (s : List ℤ) (a b : List ℕ) (g : Grows s a b) where
  pub clashes-before : Clashes s b → Clashes s a
  clashes-before k stored L h w = k stored L h (g.sound stored L h w)

module _ (s : List ℤ) (r : ℕ) (stands : Stands s r) (alive : dead_at s r ≡ false) (lits : Literals (nogood_at s r)) (m : List ℕ) (size : length m ≡ entries) where
  pub conflicting : AllTrue m (nogood_at s r) → Clashes s m
  conflicting f stored L h w = all_true (live stored) L m w (nogood_at s r) (live_in stored alive (stands stored h).0) f

  pub derived : (m' : List ℕ) (v : ℕ) → Derives (nogood_at s r) m m' (Assigned v)
      → Grows s m m' × (suc (free m') ≡ free m) × (1 ≤ v) × (v < entries)
  derived m' v (z, last, e, p) =
      let x = complement z in
      let i = last.here in
      let lx : 1 ≤ variable x = positive-complement z (lits.low z i) in
      let vx : variable x ≡ variable z = variable-complement z in
      let hx : variable x < length m = omega (arith, lits.high z i) in
      let is : m' ≡ set m (variable x) (entry x) = rw (vx, e) p in
      let open-x : Valued m x Free = (last.left.1, rw (complement-twice z) last.left.0) in
      let f : suc (free m') ≡ free m = rw is (assigned-fewer m x hx lx open-x) in (
        record {
          sound = λ stored L h w y a. elim (assigned→ m x hx y lx (rw is at a)) [
            | inl q ↦ rw q (unit-in (live stored) L m w (nogood_at s r) (live_in stored alive (stands stored h).0) z i last.others)
            | inr b ↦ w y b
          ];
          kept = λ y a. rw is (assigned-kept m x hx open-x.1 y a);
          size = rw is (length-set m (variable x) (entry x));
          fewer = omega arith;
        },
        f,
        omega (arith, lits.low z i),
        omega (arith, lits.high z i),
      )
