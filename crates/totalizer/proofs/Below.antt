-- The first number of an ascending list that is at least another, and levels that make a difference. Assumes nothing.
use mathlib.Core.Path.{◌≡◌, refl, sym, ap, subst, ◌∙◌}
use mathlib.Core.Bool.{Bool, true, false, cond, not}
use mathlib.Core.List.Memᴰ
use mathlib.Core.List.{List, [], ◌∷◌, ◌++◌, append-nil}
use mathlib.Core.Logic.{◌⊎◌, inl, inr}
use Prim.Native.Nat.{ℕ, zero, suc, ◌+◌, ◌-◌, ◌≤◌, ◌<◌}
use native.Mathlib.Numerals.{add-one}
use native.Mathlib.Omega.{arith}
use borrow.Author.Tests.{ltb-true, ltb-false, leb-true, leb-false}
use lib.Dec.{leb, ltb}
use lib.ListN.{length, take, get_or, set, length-set}
use lib.Seq.{take-suc, take-suc-set, take-set-le}
use Rattle.std.specs.Prelude.{Option, Some, None, position}
use Rattle.std.specs.List.{prefix_len}
use Rattle.std.proofs.lemmas.List.Sums.{prefix_len-le-length}
use Rattle.std.specs.Option.{unwrap_or}
use Rattle.words.specs.Lists.{◌∈◌, filter}
use Rattle.words.proofs.Lists.{by-test, Decides, failed, is_true, same_test, leb-decides, and-decides, or-decides, not-decides, any-decides, all-decides, one_less}
use Rattle.weights.proofs.Minimal.{ltb-decides}
use Rattle.words.proofs.Places.{in-at}
use Rattle.sums.specs.Levels.{Ascending, is_useful}
use Rattle.sums.proofs.Attained.{ascending-low}
use Rattle.totalizer.specs.Lists.{SumsUpTo, below}

-- as the search says it
below-before : (need : ℕ) (us : List ℕ) → prefix_len (λ u. not (leb need u)) us ≡ below need us
unfolding below
below-before need [] = refl
below-before need (u ∷ us) = on (leb need u) (ltb u need) refl refl (below-before need us)
  where
    on : (s t : Bool) → leb need u ≡ s → ltb u need ≡ t → {p q : ℕ} → p ≡ q → cond (not s) (1 + p) 0 ≡ cond t (suc q) 0
    on true true e f r = absurd (let k = leb-true need u e in let l = ltb-true u need f in omega arith)
    on true false e f r = refl
    on false true e f r = omega arith
    on false false e f r = absurd (let k = leb-false need u e in let l = ltb-false u need f in omega arith)

pub below-found : (need : ℕ) (us : List ℕ) → unwrap_or (position (λ u. leb need u) us) (length us) ≡ below need us
below-found need us = by (prefix_len (λ u. not (leb need u)) us) (prefix_len-le-length (λ u. not (leb need u)) us) ∙ below-before need us
  where
    by : (p : ℕ) → p ≤ length us → unwrap_or (cond (ltb p (length us)) (Some p) None) (length us) ≡ p
    by p k = by-test (λ (o : Option ℕ). unwrap_or o (length us) ≡ p) (ltb p (length us)) (λ e. refl) (λ e. let h = ltb-false p (length us) e in omega arith)

pub below-within : (need : ℕ) (us : List ℕ) → below need us ≤ length us
unfolding below
below-within need [] = omega arith
below-within need (u ∷ us) =
    by-test (λ k. k ≤ suc (length us)) (ltb u need) (λ e. let r = below-within need us in omega arith) (λ e. omega arith)

-- what stands at the place that is found, and before it
pub found-reaches : (need : ℕ) (us : List ℕ) → below need us < length us → need ≤ get_or us (below need us) 0
unfolding below
found-reaches need [] h = absurd (omega arith)
found-reaches need (u ∷ us) h = by (ltb u need) refl h (λ k. found-reaches need us k)
  where
    by : (t : Bool) → ltb u need ≡ t → cond t (suc (below need us)) 0 < suc (length us) → (below need us < length us → need ≤ get_or us (below need us) 0)
        → need ≤ get_or (u ∷ us) (cond t (suc (below need us)) 0) 0
    by true e k f = f (omega arith)
    by false e k f = ltb-false u need e

pub found_first : (need low : ℕ) (us : List ℕ) → Ascending low us → (o : ℕ) → o ∈ us → need ≤ o → (below need us < length us) × (get_or us (below need us) 0 ≤ o)
unfolding below
found_first need low [] a o i h = elim i [ ]
found_first need low (u ∷ us) a o i h = by (ltb u need) refl i (λ j. found_first need (suc u) us a.1 o j h)
  where
    by : (t : Bool) → ltb u need ≡ t → o ∈ u ∷ us → (o ∈ us → (below need us < length us) × (get_or us (below need us) 0 ≤ o))
        → (cond t (suc (below need us)) 0 < suc (length us)) × (get_or (u ∷ us) (cond t (suc (below need us)) 0) 0 ≤ o)
    by true e (Memᴰ.head q) f = absurd (let k = ltb-true u need e in omega arith)
    by true e (Memᴰ.tail j) f = let r = f j in (omega (arith, r), r.1)
    by false e (Memᴰ.head q) f = (omega arith, omega arith)
    by false e (Memᴰ.tail j) f = let k = ascending-low a.1 j in (omega arith, omega arith)

-- a number of an ascending list stands at a place or after it, or before it
pub beside : (low : ℕ) (us : List ℕ) → Ascending low us → (i : ℕ) → i < length us → (v : ℕ) → v ∈ us
    → (get_or us i 0 ≤ v) ⊎ ((p : ℕ) × (i ≡ suc p) × (v ≤ get_or us p 0))
beside low [] a i h v _ = elim h [ ]
beside low (u ∷ us) a zero h v (Memᴰ.head e) = inl (omega arith)
beside low (u ∷ us) a zero h v (Memᴰ.tail j) = inl (let k = ascending-low a.1 j in omega arith)
beside low (u ∷ us) a (suc zero) h v (Memᴰ.head e) = inr (0, refl, omega arith)
beside low (u ∷ us) a (suc (suc i)) h v (Memᴰ.head e) =
    inr (suc i, refl, let k = ascending-low a.1 (in-at 0 us i (omega arith)) in omega arith)
beside low (u ∷ us) a (suc i) h v (Memᴰ.tail j) = by (beside (suc u) us a.1 i (omega arith) v j)
  where
    by : (get_or us i 0 ≤ v) ⊎ ((p : ℕ) × (i ≡ suc p) × (v ≤ get_or us p 0)) → (get_or us i 0 ≤ v) ⊎ ((p : ℕ) × (suc i ≡ suc p) × (v ≤ get_or (u ∷ us) p 0))
    by (inl k) = inl k
    by (inr (p, e, k)) = inr (i, refl, subst (λ n. v ≤ get_or (u ∷ us) n 0) (sym e) k)

-- a later number is above an earlier one
pub climbs : (low : ℕ) (us : List ℕ) → Ascending low us → (i k : ℕ) → i < k → k < length us → get_or us i 0 < get_or us k 0
climbs low [] a i k h l = absurd (omega arith)
climbs low (u ∷ us) a i zero h l = absurd (omega arith)
climbs low (u ∷ us) a zero (suc k) h l = ascending-low a.1 (in-at 0 us k (omega arith))
climbs low (u ∷ us) a (suc i) (suc k) h l = climbs (suc u) us a.1 i k (omega arith) (omega arith)

-- Levels that make a difference

module _ {b : ℕ} {us others : List ℕ} (g : SumsUpTo b us) (f : SumsUpTo b others) (i : ℕ) (h : i < length us) where
  abbrev u : ℕ
  u = get_or us i 0

  abbrev j : ℕ
  j = below (b - u) others

  u-low : u ≤ b
  u-low = g.low u (in-at 0 us i h)

  abbrev Useful : Type 0
  Useful = (0 < u) × ((o : ℕ) × (o ∈ others) × ((b ≤ u + o) × ((v : ℕ) → v ∈ us → (u ≤ v) ⊎ (v + o < b))))

  decided : Decides (is_useful b others us u) Useful
  decided =
      and-decides (ltb-decides 0 u)
      (any-decides (λ o. and-decides (leb-decides b (u + o)) (all-decides (λ v. or-decides (leb-decides u v) (ltb-decides (v + o) b)) us)) others)

  pub useful-zero : u ≡ 0 → false ≡ is_useful b others us u
  useful-zero e = sym (failed _ ((not-decides decided).from (λ p. let q = p.0 in omega arith)))

  pub useful-none : length others ≤ j → false ≡ is_useful b others us u
  useful-none k =
      sym (failed _ ((not-decides decided).from
      (λ p. let l = u-low in let r = found_first (b - u) 0 others f.ascend p.1.0 p.1.1 (let q = p.1.2.0 in omega arith) in omega (arith, r))))

  reaches : j < length others → b ≤ u + get_or others j 0
  reaches k = let r = found-reaches (b - u) others k in let l = u-low in omega arith

  positive : (m : ℕ) → ¬ (m ≡ 0) → 0 < m
  positive zero q = absurd (q refl)
  positive (suc m) q = omega arith

  pub useful-first : ¬ (u ≡ 0) → j < length others → i ≡ 0 → true ≡ is_useful b others us u
  useful-first n k e =
      sym (is_true decided (positive u n, (get_or others j 0, in-at 0 others j k, (reaches k, λ v m. by v (beside 0 us g.ascend i h v m)))))
    where
      by : (v : ℕ) → (u ≤ v) ⊎ ((p : ℕ) × (i ≡ suc p) × (v ≤ get_or us p 0)) → (u ≤ v) ⊎ (v + get_or others j 0 < b)
      by v (inl q) = inl q
      by v (inr (p, q, r)) = absurd (omega arith)

  module _ (n : ¬ (u ≡ 0)) (k : j < length others) (p : ℕ) (e : i ≡ suc p) where
    to : get_or us p 0 + get_or others j 0 < b → Useful
    to l = (positive u n, (get_or others j 0, in-at 0 others j k, (reaches k, λ v m. by v (beside 0 us g.ascend i h v m))))
      where
        by : (v : ℕ) → (u ≤ v) ⊎ ((q : ℕ) × (i ≡ suc q) × (v ≤ get_or us q 0)) → (u ≤ v) ⊎ (v + get_or others j 0 < b)
        by v (inl q) = inl q
        by v (inr (q, d, r)) =
            let s : q ≡ p = omega arith in
            let t = subst (λ m. v ≤ get_or us m 0) s r in
            inr (omega arith)

    from : Useful → get_or us p 0 + get_or others j 0 < b
    from q =
        let w = q.1 in
        let l = u-low in
        let r = found_first (b - u) 0 others f.ascend w.0 w.1 (let t = w.2.0 in omega arith) in
        by (w.2.1 (get_or us p 0) (in-at 0 us p (omega arith))) r.1
      where
        by : {o : ℕ} → (u ≤ get_or us p 0) ⊎ (get_or us p 0 + o < b) → get_or others j 0 ≤ o → get_or us p 0 + get_or others j 0 < b
        by (inl t) r =
            let s = climbs 0 us g.ascend p (suc p) (omega arith) (omega arith) in
            let x : u ≡ get_or us (suc p) 0 = ap (λ m. get_or us m 0) e in
            absurd (omega arith)
        by (inr t) r = omega arith

    after_test : ltb (get_or us p 0 + get_or others j 0) b ≡ is_useful b others us u
    after_test = same_test (ltb-decides (get_or us p 0 + get_or others j 0) b) decided to from

  pub useful-after : ¬ (u ≡ 0) → j < length others → ¬ (i ≡ 0) → ltb (get_or us (i - 1) 0 + get_or others j 0) b ≡ is_useful b others us u
  useful-after n k p = after_test n k (i - 1) (one_less i (positive i p))

-- one number more of those that pass
pub keep-more : (f : ℕ → Bool) (us : List ℕ) (i : ℕ) → i < length us → filter f (take (i + 1) us) ≡ filter f (take i us) ++ cond (f (get_or us i 0)) (get_or us i 0 ∷ []) []
keep-more f us i h = rw (add-one, take-suc us i 0 h) (on (take i us) (get_or us i 0))
  where
    on : (l : List ℕ) (x : ℕ) → filter f (l ++ (x ∷ [])) ≡ filter f l ++ cond (f x) (x ∷ []) []
    on [] x = refl
    on (y ∷ l) x = by (f y) (on l x)
      where
        by : (t : Bool) → filter f (l ++ (x ∷ [])) ≡ filter f l ++ cond (f x) (x ∷ []) []
            → cond t (y ∷ filter f (l ++ (x ∷ []))) (filter f (l ++ (x ∷ []))) ≡ cond t (y ∷ filter f l) (filter f l) ++ cond (f x) (x ∷ []) []
        by true e = ap (λ (k : List ℕ). y ∷ k) e
        by false e = e

-- where the loop stands that writes them
pub record Keeping (f : ℕ → Bool) (us levels₀ levels : List ℕ) (i k : ℕ) : Type 0 where
  pub fewer : k ≤ i
  pub kept : take k levels ≡ filter f (take i us)
  pub long : length levels ≡ length levels₀

pub keeping-on : {f : ℕ → Bool} {us levels₀ levels : List ℕ} {i k : ℕ} → Keeping f us levels₀ levels i k → i < length us → length us ≤ length levels₀
    → {t : Bool} {next : ℕ} → t ≡ f (get_or us i 0) → next ≡ cond t (k + 1) k → Keeping f us levels₀ (set levels k (get_or us i 0)) (i + 1) next
keeping-on {f} {us} {levels₀} {levels} {i} {k} K h room {t} {next} et en = by t et en
  where
    place : k < length levels
    place = omega (arith, K.fewer, K.long)

    by : (t : Bool) → t ≡ f (get_or us i 0) → next ≡ cond t (k + 1) k → Keeping f us levels₀ (set levels k (get_or us i 0)) (i + 1) next
    by true e n = record {
      fewer = omega (arith, K.fewer, n);
      kept = rw (n, add-one, take-suc-set levels k (get_or us i 0) place, K.kept, keep-more f us i h, ← e);
      long = length-set levels k (get_or us i 0) ∙ K.long;
    }
    by false e n = record {
      fewer = omega (arith, K.fewer, n);
      kept = rw (n, take-set-le k levels k (get_or us i 0) (omega arith), K.kept, keep-more f us i h, ← e, append-nil (filter f (take i us)));
      long = length-set levels k (get_or us i 0) ∙ K.long;
    }
