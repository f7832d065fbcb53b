-- Sums that can come about: `sums_of` has what some of the pairs add up to, and no more than the bound, and nothing else; they ascend.
-- Assumes nothing.
use mathlib.Core.Path.{◌≡◌, refl, subst}
use mathlib.Core.Logic.{◌⊎◌, inl, inr}
use mathlib.Core.List.Memᴰ
use mathlib.Core.List.{List, [], ◌∷◌, ◌++◌}
use Prim.Native.Nat.{ℕ, zero, suc, ◌+◌, ◌≤◌, min}
use native.Mathlib.Omega.{arith}
use borrow.Author.Tests.{ltb-true, ltb-false}
use lib.Dec.{ltb}
use lib.ListN.{length}
use Rattle.words.specs.Lists.{◌∈◌}
use Rattle.words.proofs.Lists.{by-test}
use Rattle.weights.specs.Weights.{Weighted, sum}
use Rattle.weights.specs.Claims.{◌⊑◌, none, with_it, without}
use Rattle.sums.specs.Levels.{Ascending, merge, raised, further, sums_of}
use Rattle.sums.proofs.Nodes.{both-parts, sum_both}

-- Numbers that ascend

pub ascending-low : {x low : ℕ} {us : List ℕ} → Ascending low us → x ∈ us → low ≤ x
ascending-low a (Memᴰ.head e) = let h = a.0 in omega arith
ascending-low a (Memᴰ.tail i) = let h = a.0 in let k = ascending-low a.1 i in omega arith

lower : {low m : ℕ} (us : List ℕ) → m ≤ low → Ascending low us → Ascending m us
lower [] h a = tt
lower (u ∷ us) h a = let k = a.0 in (omega arith, a.1)

in-cons : {x y : ℕ} {us ls : List ℕ} → (x ∈ us → x ∈ ls) → x ∈ y ∷ us → x ∈ y ∷ ls
in-cons f (Memᴰ.head e) = Memᴰ.head e
in-cons f (Memᴰ.tail j) = Memᴰ.tail (f j)

of_cons : {C : Type 0} {x y : ℕ} {ls : List ℕ} → (x ≡ y → C) → (x ∈ ls → C) → x ∈ y ∷ ls → C
of_cons f g (Memᴰ.head e) = f e
of_cons f g (Memᴰ.tail j) = g j

-- in one list or the other, and in longer ones
either : {x y z : ℕ} {us vs : List ℕ} → (x ∈ us) ⊎ (x ∈ vs) → (x ∈ y ∷ us) ⊎ (x ∈ z ∷ vs)
either (inl j) = inl (Memᴰ.tail j)
either (inr j) = inr (Memᴰ.tail j)

either_left : {x y : ℕ} {us vs : List ℕ} → (x ∈ us) ⊎ (x ∈ vs) → (x ∈ y ∷ us) ⊎ (x ∈ vs)
either_left (inl j) = inl (Memᴰ.tail j)
either_left (inr j) = inr j

either-right : {x z : ℕ} {us vs : List ℕ} → (x ∈ us) ⊎ (x ∈ vs) → (x ∈ us) ⊎ (x ∈ z ∷ vs)
either-right (inl j) = inl j
either-right (inr j) = inr (Memᴰ.tail j)

-- Merging

merge-ascends : (n low : ℕ) (us vs : List ℕ) → Ascending low us → Ascending low vs → Ascending low (merge n us vs)
unfolding merge
merge-ascends zero low us vs a c = tt
merge-ascends (suc n) low [] vs a c = c
merge-ascends (suc n) low (u ∷ us) [] a c = a
merge-ascends (suc n) low (u ∷ us) (v ∷ vs) a c =
    by-test (Ascending low) (ltb u v) (λ e. let h = ltb-true u v e in (a.0, merge-ascends n (suc u) us (v ∷ vs) a.1 (omega arith, c.1)))
    (λ e.
    by-test (Ascending low) (ltb v u) (λ f. let h = ltb-true v u f in (c.0, merge-ascends n (suc v) (u ∷ us) vs (omega arith, a.1) c.1))
    (λ f.
    let h = ltb-false u v e in
    let k = ltb-false v u f in
    (a.0, merge-ascends n (suc u) us vs a.1 (lower vs (omega arith) c.1))))

module _ (x : ℕ) where
  merge-left : (n : ℕ) (us vs : List ℕ) → length us + length vs ≤ n → x ∈ us → x ∈ merge n us vs
  unfolding merge
  merge-left zero [] vs h i = elim i [ ]
  merge-left (suc n) [] vs h i = elim i [ ]
  merge-left zero (u ∷ us) vs h i = absurd (omega arith)
  merge-left (suc n) (u ∷ us) [] h i = i
  merge-left (suc n) (u ∷ us) (v ∷ vs) h i =
      by-test (λ l. x ∈ l) (ltb u v) (λ e. in-cons (λ j. merge-left n us (v ∷ vs) (omega arith) j) i)
      (λ e.
      by-test (λ l. x ∈ l) (ltb v u) (λ f. Memᴰ.tail (merge-left n (u ∷ us) vs (omega arith) i))
      (λ f. in-cons (λ j. merge-left n us vs (omega arith) j) i))

  merge-right : (n : ℕ) (us vs : List ℕ) → length us + length vs ≤ n → x ∈ vs → x ∈ merge n us vs
  unfolding merge
  merge-right zero us [] h i = elim i [ ]
  merge-right (suc n) (u ∷ us) [] h i = elim i [ ]
  merge-right zero us (v ∷ vs) h i = absurd (omega arith)
  merge-right (suc n) [] vs h i = i
  merge-right (suc n) (u ∷ us) (v ∷ vs) h i =
      by-test (λ l. x ∈ l) (ltb u v) (λ e. Memᴰ.tail (merge-right n us (v ∷ vs) (omega arith) i))
      (λ e.
      by-test (λ l. x ∈ l) (ltb v u) (λ f. in-cons (λ j. merge-right n (u ∷ us) vs (omega arith) j) i)
      (λ f.
      let p = ltb-false u v e in
      let q = ltb-false v u f in
      of_cons (λ g. let s : x ≡ u = omega arith in Memᴰ.head s) (λ j. Memᴰ.tail (merge-right n us vs (omega arith) j)) i))

  merge_of : (n : ℕ) (us vs : List ℕ) → x ∈ merge n us vs → (x ∈ us) ⊎ (x ∈ vs)
  unfolding merge
  merge_of zero us vs i = elim i [ ]
  merge_of (suc n) [] vs i = inr i
  merge_of (suc n) (u ∷ us) [] i = inl i
  merge_of (suc n) (u ∷ us) (v ∷ vs) i =
      by-test (λ l. x ∈ l → (x ∈ u ∷ us) ⊎ (x ∈ v ∷ vs)) (ltb u v)
      (λ e. of_cons (λ g. inl (Memᴰ.head g)) (λ j. either_left (merge_of n us (v ∷ vs) j)))
      (λ e.
      by-test (λ l. x ∈ l → (x ∈ u ∷ us) ⊎ (x ∈ v ∷ vs)) (ltb v u)
      (λ f. of_cons (λ g. inr (Memᴰ.head g)) (λ j. either-right (merge_of n (u ∷ us) vs j)))
      (λ f. of_cons (λ g. inl (Memᴰ.head g)) (λ j. either (merge_of n us vs j))))
      i

-- Numbers raised

module _ (b w : ℕ) where
  raised-ascends : (low m : ℕ) (us : List ℕ) → Ascending low us → m ≤ low + w → m ≤ b → Ascending m (raised b w us)
  unfolding raised
  raised-ascends low m [] a h k = tt
  raised-ascends low m (u ∷ us) a h k =
      by-test (Ascending m) (ltb (u + w) b)
      (λ e. let l = ltb-true (u + w) b e in let g = a.0 in (omega arith, raised-ascends (suc u) (suc (u + w)) us a.1 (omega arith) (omega arith)))
      (λ e. (k, tt))

  raised-in : (low : ℕ) {x : ℕ} (us : List ℕ) → Ascending low us → x ∈ us → min b (x + w) ∈ raised b w us
  unfolding raised
  raised-in low {x} [] a i = elim i [ ]
  raised-in low {x} (u ∷ us) a i =
      by-test (λ l. min b (x + w) ∈ l) (ltb (u + w) b)
      (λ e.
      let h = ltb-true (u + w) b e in
      of_cons (λ f. let s : min b (x + w) ≡ u + w = omega arith in Memᴰ.head s) (λ j. Memᴰ.tail (raised-in (suc u) us a.1 j)) i)
      (λ e.
      let h = ltb-false (u + w) b e in
      let k : u ≤ x = of_cons (λ f. omega arith) (λ j. let m = ascending-low a.1 j in omega arith) i in
      let s : min b (x + w) ≡ b = omega arith in
      Memᴰ.head s)

  -- what a number was raised from
  abbrev pub From : (y : ℕ) (us : List ℕ) → Type 0
  From y us = (u : ℕ) × (u ∈ us) × (y ≡ min b (u + w))

  pub raised_of : {y : ℕ} (us : List ℕ) → y ∈ raised b w us → From y us
  unfolding raised
  raised_of {y} [] i = elim i [ ]
  raised_of {y} (u ∷ us) i =
      by-test (λ l. y ∈ l → From y (u ∷ us)) (ltb (u + w) b)
      (λ e.
      let h = ltb-true (u + w) b e in
      of_cons (λ f. (u, Memᴰ.head refl, omega arith)) (λ j. let r = raised_of us j in (r.0, Memᴰ.tail r.1, r.2)))
      (λ e j. let h = ltb-false (u + w) b e in let f = Memᴰ.eq_of_singleton j in (u, Memᴰ.head refl, omega arith))
      i

  pub raised-short : (us : List ℕ) → length (raised b w us) ≤ length us
  unfolding raised
  raised-short [] = omega arith
  raised-short (u ∷ us) =
      by-test (λ (l : List ℕ). length l ≤ suc (length us)) (ltb (u + w) b) (λ e. let h = raised-short us in omega arith) (λ e. omega arith)

  -- one literal more

  pub further-ascends : (us : List ℕ) → Ascending 0 us → Ascending 0 (further b w us)
  unfolding further
  further-ascends us a = merge-ascends _ 0 us (raised b w us) a (raised-ascends 0 0 us a (omega arith) (omega arith))

  pub further-without : {x : ℕ} (us : List ℕ) → x ∈ us → x ∈ further b w us
  unfolding further
  further-without {x} us i = let h = raised-short us in merge-left x _ us (raised b w us) (omega arith) i

  pub further-with : {x : ℕ} (us : List ℕ) → Ascending 0 us → x ∈ us → min b (x + w) ∈ further b w us
  unfolding further
  further-with {x} us a i = let h = raised-short us in merge-right (min b (x + w)) _ us (raised b w us) (omega arith) (raised-in 0 us a i)

  pub further-of : {y : ℕ} (us : List ℕ) → y ∈ further b w us → (y ∈ us) ⊎ From y us
  unfolding further
  further-of {y} us i = by (merge_of y _ us (raised b w us) i)
    where
      by : (y ∈ us) ⊎ (y ∈ raised b w us) → (y ∈ us) ⊎ From y us
      by (inl j) = inl j
      by (inr j) = inr (raised_of us j)

-- Sums

module _ (b : ℕ) where
  pub sums-ascend : (l : List Weighted) → Ascending 0 (sums_of b l)
  unfolding sums_of
  sums-ascend [] = (omega arith, tt)
  sums-ascend (x ∷ l) = further-ascends b x.weight (sums_of b l) (sums-ascend l)

  pub sums-in : {s l : List Weighted} → s ⊑ l → min b (sum s) ∈ sums_of b l
  unfolding sums_of
  sums-in none = let e : min b 0 ≡ 0 = omega arith in Memᴰ.head e
  sums-in (with_it {x = x} {s = s} {l = l} h) =
      let e : min b (min b (sum s) + x.weight) ≡ min b (x.weight + sum s) = omega arith in
      subst (λ n. n ∈ further b x.weight (sums_of b l)) e (further-with b x.weight (sums_of b l) (sums-ascend l) (sums-in h))
  sums-in (without {x = x} {l = l} h) = further-without b x.weight (sums_of b l) (sums-in h)

  -- each is a sum
  abbrev Sum : (l : List Weighted) → ℕ → Type 0
  Sum l u = (s : List Weighted) × (s ⊑ l) × (u ≡ min b (sum s))

  pub sums-of : (l : List Weighted) {u : ℕ} → u ∈ sums_of b l → Sum l u
  unfolding sums_of
  sums-of [] i = let e = Memᴰ.eq_of_singleton i in ([], none, omega arith)
  sums-of (x ∷ l) {u} i = by (further-of b x.weight (sums_of b l) i) (λ v j. sums-of l j)
    where
      by : (u ∈ sums_of b l) ⊎ ((v : ℕ) × (v ∈ sums_of b l) × (u ≡ min b (v + x.weight))) → ((v : ℕ) → v ∈ sums_of b l → Sum l v) → Sum (x ∷ l) u
      by (inl j) f = let r = f u j in (r.0, without r.1, r.2)
      by (inr (v, j, e)) f = let r = f v j in let q = r.2 in (x ∷ r.0, with_it r.1, omega arith)

  pub sums-low : (l : List Weighted) {u : ℕ} → u ∈ sums_of b l → u ≤ b
  sums-low l i = let r = sums-of l i in let e = r.2 in omega arith

  pub sums-both : (k l : List Weighted) {u v : ℕ} → u ∈ sums_of b k → v ∈ sums_of b l → min b (u + v) ∈ sums_of b (k ++ l)
  sums-both k l {u} {v} i j =
      let p = sums-of k i in
      let q = sums-of l j in
      let d = p.2 in
      let f = q.2 in
      let g = sum_both p.0 q.0 in
      let e : min b (sum (p.0 ++ q.0)) ≡ min b (u + v) = omega arith in
      subst (λ n. n ∈ sums_of b (k ++ l)) e (sums-in (both-parts p.1 q.1))
