-- Assignments: lists of literals that have each atom up to some number once. Assumes nothing.
use mathlib.Core.Path.{◌≡◌, refl, sym, ◌∙◌, ap}
use mathlib.Core.Logic.{◌⊎◌, inl, inr, ◌≢◌}
use mathlib.Core.Bool.{Bool, true, false, not, cond}
use mathlib.Core.List.Memᴰ
use mathlib.Core.List.{List, [], ◌∷◌, map}
use Prim.Native.Nat.{ℕ, zero, suc, ◌≤◌, ◌<◌}
use native.Mathlib.Omega.{arith}
use lib.Dec.{T, leb}
use lib.IntN.{ℤ, pos, negsuc}
use lib.ListN.{length}
use Rattle.words.specs.Lists.{◌∈◌, filter}
use Rattle.words.specs.Literals.{variable, complement, same, same_list, distinct}
use Rattle.words.proofs.Lists.{itself, keep-lt, answered, is_true, not-decides, leb-decides, keep→, keep←, length-keep}
use Rattle.words.proofs.Places.{once-decides}
use Rattle.weights.proofs.Sublists.{kept, sublist-map}
use Rattle.weights.proofs.Reordered.{distinct-part}
use Rattle.words.proofs.Literals.{same-decides, same_list-decides, same-variable, complement-twice, variable-complement}

-- Lists in which no variable stands twice

pub distinct_cons : (x : ℤ) (l : List ℤ) → ((y : ℤ) → y ∈ l → variable x ≢ variable y) → distinct l ≡ true → distinct (x ∷ l) ≡ true
distinct_cons x l f d = is_true (once-decides x l) (λ r. f r.0 r.1 r.2, d)

-- what is kept
pub in_kept : {A B : Type 0} (g : A → B) (f : A → Bool) {y : B} (l : List A) → y ∈ map g (filter f l) → y ∈ map g l
in_kept g f l i = let q = Memᴰ.of_map g (filter f l) i in Memᴰ.cast (sym q.2) (Memᴰ.map g (keep→ f l q.1).0)

-- what is kept of such a list is one
pub distinct-keep : {A : Type 0} (g : A → ℤ) (f : A → Bool) (l : List A) → distinct (map g l) ≡ true → distinct (map g (filter f l)) ≡ true
distinct-keep g f l e = distinct-part (sublist-map g (kept f l)) e

pub distinct_filter : (f : ℤ → Bool) (l : List ℤ) → distinct l ≡ true → distinct (filter f l) ≡ true
distinct_filter f l e = distinct-part (kept f l) e

-- without those that pass the list is shorter
pub fewer : {A : Type 0} (f : A → Bool) {x : A} {l : List A} → x ∈ l → T (f x) → length (filter (λ y. not (f y)) l) < length l
fewer f {x} {l} m t =
    omega (arith, keep-lt (λ y. not (f y)) (λ y. true) (λ y u. tt) m ((not-decides (not-decides (itself (f x)))).from (λ k. k t)) tt, length-keep (λ y. true) l)

pub shorter : (x : ℤ) {l : List ℤ} → x ∈ l → length (filter (λ y. not (same x y)) l) < length l
shorter x m = fewer (same x) m ((same-decides x x).from refl)

-- Bodies, none of them twice

abbrev pub Different : List (List ℤ) → Type 0
Different [] = Unit {0}
Different (x ∷ l) = (¬ (x ∈ l)) × Different l

pub different-keep : {A : Type 0} (g : A → List ℤ) (f : A → Bool) (l : List A) → Different (map g l) → Different (map g (filter f l))
different-keep g f [] d = tt
different-keep {A} g f (x ∷ l) d = go (f x) (different-keep g f l d.1)
  where
    go : (b : Bool) → Different (map g (filter f l)) → Different (map g (cond b (x ∷ filter f l) (filter f l)))
    go true e = (λ i. d.0 (in_kept g f l i), e)
    go false e = e

-- no more of them than a list has that has them all
pub not_more : (k l : List (List ℤ)) → Different k → ((x : List ℤ) → x ∈ k → x ∈ l) → length k ≤ length l
not_more [] l d f = omega arith
not_more (x ∷ k) l d f =
    omega (arith, not_more k (filter other l) d.1 (λ y i. keep← other (f y (Memᴰ.tail i)) (differs y i)), fewer (same_list x) (f x (Memᴰ.head refl)) ((same_list-decides x x).from refl))
  where
    other : List ℤ → Bool
    other y = not (same_list x y)

    differs : (y : List ℤ) → y ∈ k → T (other y)
    differs y i = (not-decides (same_list-decides x y)).from (λ p. d.0 (Memᴰ.cast p i))

-- Assignments

pub record Total (k : ℕ) (L : List ℤ) : Type 0 where
  pub within : (x : ℤ) → x ∈ L → (1 ≤ variable x) × (variable x ≤ k)
  pub covers : (x : ℤ) → 1 ≤ variable x → variable x ≤ k → (x ∈ L) ⊎ (complement x ∈ L)
  pub consistent : (x : ℤ) → x ∈ L → complement x ∈ L → ⊥
  pub once : distinct L ≡ true
  pub size : length L ≡ k

abbrev pub total-none : Total 0 []
total-none = record { within = λ x m. elim m [ ]; covers = λ x h k. absurd (omega arith); consistent = λ x m n. elim m [ ]; once = refl; size = refl }

pub not_own : (x : ℤ) → 1 ≤ variable x → complement x ≡ x → ⊥
not_own (pos zero) h e = omega arith
not_own (pos (suc n)) h e = let s : T (same (negsuc n) (pos (suc n))) = (same-decides (negsuc n) (pos (suc n))).from e in s
not_own (negsuc n) h e = let s : T (same (pos (suc n)) (negsuc n)) = (same-decides (pos (suc n)) (negsuc n)).from e in s

-- one atom more
abbrev pub total-more : (k : ℕ) (L : List ℤ) (x : ℤ) → variable x ≡ suc k → Total k L → Total (suc k) (x ∷ L)
total-more k L x e t = record {
  within = within;
  covers = λ y h j. by y h j (answered (leb (variable y) k));
  consistent = λ y i j. apart y (Memᴰ.cases_cons i) (Memᴰ.cases_cons j);
  once = distinct_cons x L (λ y i p. omega (arith, (t.within y i).1)) t.once;
  size = ap suc t.size;
}
  where
    within : (y : ℤ) → y ∈ x ∷ L → (1 ≤ variable y) × (variable y ≤ suc k)
    within y (Memᴰ.head p) = rw (p, e) (omega arith)
    within y (Memᴰ.tail m) = let w = t.within y m in (w.0, omega arith)

    by : (y : ℤ) → 1 ≤ variable y → variable y ≤ suc k → T (leb (variable y) k) ⊎ T (not (leb (variable y) k)) → (y ∈ x ∷ L) ⊎ (complement y ∈ x ∷ L)
    by y h u (inl j) = elim (t.covers y h ((leb-decides (variable y) k).to j)) [ inl i ↦ inl (Memᴰ.tail i) | inr i ↦ inr (Memᴰ.tail i) ]
    by y h u (inr j) = elim (same-variable y x (let v : variable y ≡ suc k = omega (arith, (not-decides (leb-decides (variable y) k)).to j) in v ∙ sym e)) [
      | inl p ↦ inl (Memᴰ.head p)
      | inr p ↦ inr (Memᴰ.head (ap complement p ∙ complement-twice x))
    ]

    apart : (y : ℤ) → (y ≡ x) ⊎ (y ∈ L) → (complement y ≡ x) ⊎ (complement y ∈ L) → ⊥
    apart y (inl p) (inl q) = not_own y (rw (p, e) (omega arith)) (q ∙ sym p)
    apart y (inl p) (inr j) = omega (arith, (t.within (complement y) j).1, variable-complement y, ap variable p, e)
    apart y (inr i) (inl q) = omega (arith, (t.within y i).1, variable-complement y, ap variable q, e)
    apart y (inr i) (inr j) = t.consistent y i j
