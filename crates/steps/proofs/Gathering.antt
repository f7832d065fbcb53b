-- The nogood of an `l` step as `gather` writes it: number by number, and what its literals are.
-- Assumes nothing.
use mathlib.Core.Path.{◌≡◌, refl, sym, ap, subst, ◌∙◌}
use mathlib.Core.Bool.{Bool, true, false, cond}
use mathlib.Core.List.{List, [], ◌∷◌, ◌++◌, map}
use Prim.Native.Nat.{ℕ, zero, suc, ◌+◌, ◌-◌, ◌≤◌, ◌<◌}
use native.Mathlib.Omega.{arith}
use native.Mathlib.Numerals.{add-one}
use borrow.Author.Tests.{eq-eqb, ne_eqb, eqb-true}
use lib.Dec.{eqb}
use lib.IntN.{ℤ, pos, neg_ℤ}
use lib.ListN.{length, take, drop, set, length-map}
use lib.Seq.{take-suc-set, take_at, length-take-le}
use borrow.Rule.Slice.PartMut.{put_mid}
use Rattle.words.specs.Limits.{largest}
use Rattle.words.specs.Literals.{variable, complement}
use Rattle.words.proofs.Literals.{variable-complement}
use Rattle.words.proofs.Parts.{put-tail}
use Rattle.nogoods.specs.Keeps.{Literals}
use Rattle.nogoods.proofs.Literals.{literals-nil, literals-cons}
use Rattle.steps.specs.Held.{gathered}
use Rattle.steps.proofs.Loops.{gathered-above}

module _ (f : ℕ → Bool) (h : ℤ) where
  -- one number more
  pub gathered-more : (n v : ℕ) → gathered f h (suc n) v ≡ gathered f h n v ++ gathered f h 1 (v + n)
  gathered-more zero v = let e : v + 0 ≡ v = omega arith in rw e
  gathered-more (suc n) v = by (eqb v (variable h)) (f v) (rw m at (gathered-more n (suc v)))
    where
      m : suc v + n ≡ v + suc n
      m = omega arith

      by : (a b : Bool) → gathered f h (suc n) (suc v) ≡ gathered f h n (suc v) ++ gathered f h 1 (v + suc n)
          → cond a (h ∷ gathered f h (suc n) (suc v)) (cond b (neg_ℤ (pos v) ∷ gathered f h (suc n) (suc v)) (gathered f h (suc n) (suc v)))
          ≡ cond a (h ∷ gathered f h n (suc v)) (cond b (neg_ℤ (pos v) ∷ gathered f h n (suc v)) (gathered f h n (suc v))) ++ gathered f h 1 (v + suc n)
      by true b e = ap (λ l. h ∷ l) e
      by false true e = ap (λ l. neg_ℤ (pos v) ∷ l) e
      by false false e = e

  pub gathered-on : {l m : List ℤ} (v : ℕ) → 1 ≤ v → l ≡ gathered f h (v - 1) 1 → m ≡ l ++ gathered f h 1 v → m ≡ gathered f h (v + 1 - 1) 1
  gathered-on zero k p q = absurd (omega arith)
  gathered-on (suc n) k p q =
      let a : suc n + 1 - 1 ≡ suc n = omega arith in
      let b : suc n - 1 ≡ n = omega arith in
      let e : 1 + n ≡ suc n = omega arith in
      rw a (q ∙ ap (λ t. t ++ gathered f h 1 (suc n)) (rw b at p) ∙ sym (rw e at (gathered-more n 1)))

  -- the same numbers pass
  pub gathered-same : (g : ℕ → Bool) (n v : ℕ) → ((u : ℕ) → u < v + n → f u ≡ g u) → gathered f h n v ≡ gathered g h n v
  gathered-same g zero v e = refl
  gathered-same g (suc n) v e = rw (e v (omega arith), gathered-same g n (suc v) (λ u i. e u (omega arith)))

  gathered-few : (n v : ℕ) → length (gathered f h n v) ≤ n
  gathered-few zero v = omega arith
  gathered-few (suc n) v = by (eqb v (variable h)) (f v) (gathered-few n (suc v))
    where
      by : (a b : Bool) → length (gathered f h n (suc v)) ≤ n
          → length (cond a (h ∷ gathered f h n (suc v)) (cond b (neg_ℤ (pos v) ∷ gathered f h n (suc v)) (gathered f h n (suc v)))) ≤ suc n
      by true b e = omega (arith, e)
      by false true e = omega (arith, e)
      by false false e = omega (arith, e)

  -- as many words of w
  pub gathered-count : (n : ℕ) (w : List ℤ) (k : ℕ) → k ≤ length w → take k w ≡ gathered f h n 1 → k ≤ n
  gathered-count n w k room e = subst (λ (x : ℕ). x ≤ n) (sym (ap length e) ∙ length-take-le k w room) (gathered-few n 1)

  -- n numbers from v on are enough where no further one is that of h or passes
  gathered-rest : (k n v : ℕ) → n ≤ k → ((u : ℕ) → v + n ≤ u → (f u ≡ false) × (¬ (u ≡ variable h))) → gathered f h k v ≡ gathered f h n v
  gathered-rest zero zero v i g = refl
  gathered-rest zero (suc n) v i g = absurd (omega arith)
  gathered-rest (suc k) zero v i g =
      let p = g v (omega arith) in
      rw (ne_eqb v (variable h) p.1, p.0) (gathered-rest k zero (suc v) (omega arith) (λ u j. g u (omega arith)))
  gathered-rest (suc k) (suc n) v i g = by (eqb v (variable h)) (f v) (gathered-rest k n (suc v) (omega arith) (λ u j. g u (omega arith)))
    where
      by : (a b : Bool) → gathered f h k (suc v) ≡ gathered f h n (suc v)
          → cond a (h ∷ gathered f h k (suc v)) (cond b (neg_ℤ (pos v) ∷ gathered f h k (suc v)) (gathered f h k (suc v)))
          ≡ cond a (h ∷ gathered f h n (suc v)) (cond b (neg_ℤ (pos v) ∷ gathered f h n (suc v)) (gathered f h n (suc v)))
      by true b e = ap (λ l. h ∷ l) e
      by false true e = ap (λ l. neg_ℤ (pos v) ∷ l) e
      by false false e = e

  -- all numbers, where x is h and there is none after v
  pub gathered-all : {x : ℤ} {l : List ℤ} (v n : ℕ) → x ≡ h → 1 ≤ v → v - 1 ≤ n → ((u : ℕ) → v ≤ u → (f u ≡ false) × (¬ (u ≡ variable h)))
      → l ≡ gathered f x (v - 1) 1 → l ≡ gathered f h n 1
  gathered-all v n p a q g e = (rw p at e) ∙ sym (gathered-rest n (v - 1) 1 q (λ u k. g u (omega arith)))

  pub gathered-literals : (n v : ℕ) → 1 ≤ v → v + n ≤ suc largest → Literals (gathered f h n v)
  gathered-literals zero v low high = literals-nil
  gathered-literals (suc n) v low high = by (gathered-literals n (suc v) (omega arith) (omega arith)) (eqb v (variable h)) refl (f v)
    where
      -- a word of the variable v before the others
      more : (x : ℤ) → variable x ≡ v → Literals (gathered f h n (suc v)) → Literals (x ∷ gathered f h n (suc v))
      more x e l = literals-cons x _ (omega arith) (omega arith) (λ y i p. omega (arith, gathered-above f h n (suc v) y i)) l

      by : Literals (gathered f h n (suc v)) → (a : Bool) → eqb v (variable h) ≡ a → (b : Bool)
          → Literals (cond a (h ∷ gathered f h n (suc v)) (cond b (neg_ℤ (pos v) ∷ gathered f h n (suc v)) (gathered f h n (suc v))))
      by l true e b = more h (sym (eqb-true v (variable h) e)) l
      by l false e true = more (neg_ℤ (pos v)) (variable-complement (pos v)) l
      by l false e false = l

  module _ (v : ℕ) where
    pub gather-first : v ≡ variable h → gathered f h 1 v ≡ h ∷ []
    gather-first e = rw (eq-eqb v (variable h) e)

    pub gather-name : ¬ (v ≡ variable h) → f v ≡ true → gathered f h 1 v ≡ neg_ℤ (pos v) ∷ []
    gather-name e q = rw (ne_eqb v (variable h) e, q)

    pub gather_none : ¬ (v ≡ variable h) → f v ≡ false → gathered f h 1 v ≡ []
    gather_none e q = rw (ne_eqb v (variable h) e, q)

-- words put after the first of a row
pub put-others : (row ys : List ℤ) → 1 ≤ length row → drop 1 (put_mid 1 (length row - 1) row ys) ≡ ys
put-others [] ys h = absurd (omega arith)
put-others (x ∷ row) ys h = ap (drop 1) (put-tail 1 (x ∷ row) ys h)

pub put-size : (row ys : List ℤ) → 1 ≤ length row → length (put_mid 1 (length row - 1) row ys) ≡ suc (length ys)
put-size [] ys h = absurd (omega arith)
put-size (x ∷ row) ys h = ap length (put-tail 1 (x ∷ row) ys h)

-- h before the complements of the n words after the first of a row
pub put-names : (row t : List ℤ) (h y : ℤ) (n m : ℕ) → m ≡ n → y ≡ h → n < length row → t ≡ map complement (take m (drop 1 row))
    → take (n + 1) (set (put_mid 1 m row t) 0 y) ≡ h ∷ map complement (take n (drop 1 row))
put-names [] t h y n m e f k p = absurd (omega arith)
put-names (x ∷ row) t h y n m e f k p =
    let q : t ≡ map complement (take n row) = rw e at p in
    let size : length t ≡ n = ap length q ∙ length-map (take n row) complement ∙ length-take-le n row (omega arith) in
    rw (e, f, add-one) (ap (λ (l : List ℤ). h ∷ l) (take_at t (drop n row) n size ∙ q))

-- a word after the first words of a row
pub put_word : (row l : List ℤ) (count : ℕ) {x y : ℤ} → count < length row → x ≡ y → l ≡ y ∷ [] → take (count + 1) (set row count x) ≡ take count row ++ l
put_word row l count {x} room e p = rw (add-one, p, ← e) (take-suc-set row count x room)
