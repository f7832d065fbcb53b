-- `Reordered`, `Passing` and `Weightless` of specs/Claims.antt, and what another order of a list keeps.
-- Assumes nothing.
use mathlib.Core.Path.{◌≡◌, refl, sym, ap, ◌∙◌}
use mathlib.Core.Bool.{Bool, true, false, ◌&&◌, ◌||◌, and_comm, and-false}
use mathlib.Core.List.Memᴰ
use mathlib.Core.List.{List, [], ◌∷◌, ◌++◌, map}
use Prim.Native.Nat.{ℕ, suc, ◌+◌}
use native.Mathlib.Omega.{arith}
use lib.Dec.{T, eqb, ltb}
use lib.IntN.{ℤ}
use lib.ListN.{length}
use Rattle.words.specs.Lists.{◌∈◌, any, all, filter}
use Rattle.words.specs.Literals.{variable, distinct, rising, ascending}
use Rattle.words.proofs.Lists.{itself, is_true, if-true, same_test, any-decides, all-decides, or_swap}
use Rattle.words.proofs.Literals.{ascending→, ascending←}
use Rattle.words.proofs.Places.{once-decides}
use Rattle.words.proofs.Sorting.{none-twice-swap, rising-ascending, rising-tail, rising-before, rising-below, same-members}
use Rattle.weights.specs.Weights.{Weighted, sum, literals, sublists, is_minimal, minimal_sets, bodies}
use Rattle.weights.specs.Claims.{◌⊑◌, none, with_it, without, Reorder, nothing, first-stays, exchange, one_more, Reordered, Passing, Weightless}
use Rattle.weights.proofs.Sublists.{filter_same, filter-filter, filter_map, all_map, sublists-filter, sublist-map, in_whole}
use Rattle.weights.proofs.Minimal.{ltb-decides, parts, body→, body←}

-- What another order keeps

module _ {A : Type 0} where
  pub as_it_was : (l : List A) → Reorder l l
  as_it_was [] = nothing
  as_it_was (x ∷ l) = first-stays (as_it_was l)

  pub and-back : {l m : List A} → Reorder l m → Reorder m l
  and-back nothing = nothing
  and-back (first-stays r) = first-stays (and-back r)
  and-back exchange = exchange
  and-back (one_more r q) = one_more (and-back q) (and-back r)

  pub reorder-in : {l m : List A} {z : A} → Reorder l m → z ∈ l → z ∈ m
  reorder-in nothing i = i
  reorder-in (first-stays r) (Memᴰ.head p) = Memᴰ.head p
  reorder-in (first-stays r) (Memᴰ.tail i) = Memᴰ.tail (reorder-in r i)
  reorder-in exchange (Memᴰ.head p) = Memᴰ.tail (Memᴰ.head p)
  reorder-in exchange (Memᴰ.tail (Memᴰ.head p)) = Memᴰ.head p
  reorder-in exchange (Memᴰ.tail (Memᴰ.tail i)) = Memᴰ.tail (Memᴰ.tail i)
  reorder-in (one_more r q) i = reorder-in q (reorder-in r i)

  pub reorder-length : {l m : List A} → Reorder l m → length l ≡ length m
  reorder-length nothing = refl
  reorder-length (first-stays r) = ap suc (reorder-length r)
  reorder-length exchange = refl
  reorder-length (one_more r q) = reorder-length r ∙ reorder-length q

  pub reorder-after : (k : List A) {l m : List A} → Reorder l m → Reorder (k ++ l) (k ++ m)
  reorder-after [] r = r
  reorder-after (x ∷ k) r = first-stays (reorder-after k r)

  pub reorder-front : (x : A) (k l : List A) → Reorder (k ++ (x ∷ l)) (x ∷ k ++ l)
  reorder-front x [] l = as_it_was (x ∷ l)
  reorder-front x (y ∷ k) l = one_more (first-stays (reorder-front x k l)) exchange

  pub reorder-any : {l m : List A} (f : A → Bool) → Reorder l m → any f l ≡ any f m
  reorder-any f nothing = refl
  reorder-any f (first-stays {x = x} r) = ap (λ (t : Bool). f x || t) (reorder-any f r)
  reorder-any f (exchange {x = x} {y = y} {l = l}) = or_swap (f x) (f y) (any f l)
  reorder-any f (one_more r q) = reorder-any f r ∙ reorder-any f q

  -- a sublist is one of the reordered list, reordered
  pub reorder-sublist : {s l m : List A} → s ⊑ l → Reorder l m → (t : List A) × (t ⊑ m) × Reorder s t
  reorder-sublist {s} h nothing = (s, h, as_it_was s)
  reorder-sublist (with_it {x = x} {s = s} h) (first-stays {l = l} {m = m} r) = let q = reorder-sublist {s = s} h r in (x ∷ q.0, with_it q.1, first-stays q.2)
  reorder-sublist (without h) (first-stays r) = let q = reorder-sublist h r in (q.0, without q.1, q.2)
  reorder-sublist (with_it {x = x} (with_it {x = y} {s = s} h)) exchange = (y ∷ x ∷ s, with_it (with_it h), exchange)
  reorder-sublist {s} (with_it (without h)) exchange = (s, without (with_it h), as_it_was s)
  reorder-sublist {s} (without (with_it h)) exchange = (s, with_it (without h), as_it_was s)
  reorder-sublist {s} (without (without h)) exchange = (s, without (without h), as_it_was s)
  reorder-sublist h (one_more r q) =
      let u = reorder-sublist h r in
      let v = reorder-sublist u.1 q in
      (v.0, v.1, one_more u.2 v.2)

pub reorder-map : {A B : Type 0} (f : A → B) {l m : List A} → Reorder l m → Reorder (map f l) (map f m)
reorder-map f nothing = nothing
reorder-map f (first-stays r) = first-stays (reorder-map f r)
reorder-map f exchange = exchange
reorder-map f (one_more r q) = one_more (reorder-map f r) (reorder-map f q)

pub reorder-sum : {l m : List Weighted} → Reorder l m → sum l ≡ sum m
reorder-sum nothing = refl
reorder-sum (first-stays {x = x} r) = ap (λ (n : ℕ). x.weight + n) (reorder-sum r)
reorder-sum (exchange {x = x} {y = y} {l = l}) = omega arith
reorder-sum (one_more r q) = reorder-sum r ∙ reorder-sum q

pub reorder-minimal : (b : ℕ) {s t : List Weighted} → Reorder s t → T (is_minimal b s) → T (is_minimal b t)
reorder-minimal b {s} {t} r h =
    let p = (parts b s).to h in
    let e = reorder-sum r in
    (parts b t).from (omega (arith, p.0), λ x i. omega (arith, p.1 x (reorder-in (and-back r) i)))

pub reorder-distinct : {k l : List ℤ} → Reorder k l → distinct k ≡ distinct l
reorder-distinct nothing = refl
reorder-distinct (first-stays {x = x} {l = k} {m = l} r) = rw (reorder-any (λ y. eqb (variable x) (variable y)) r, reorder-distinct r)
reorder-distinct (exchange {x = x} {y = y} {l = l}) = none-twice-swap y x l
reorder-distinct (one_more r q) = reorder-distinct r ∙ reorder-distinct q

-- Literals that rise

pub rising-distinct : (l : List ℤ) → rising l ≡ true → distinct l ≡ true
rising-distinct [] e = refl
rising-distinct (x ∷ l) e =
    is_true (once-decides x l) (λ r. omega (arith, rising-below x l e r.0 r.1, r.2), rising-distinct l (rising-tail x l e))

pub distinct-part : {s l : List ℤ} → s ⊑ l → distinct l ≡ true → distinct s ≡ true
distinct-part none e = refl
distinct-part (with_it {x = x} {s = s} {l = l} h) e =
    let d = if-true (once-decides x l) e in is_true (once-decides x s) (λ r. d.0 (r.0, in_whole r.1 h, r.2), distinct-part h d.1)
distinct-part (without {x = x} {l = l} h) e = distinct-part h (if-true (once-decides x l) e).1

pub rising_part : {s l : List ℤ} → s ⊑ l → rising l ≡ true → rising s ≡ true
rising_part none e = refl
rising_part (with_it {x = x} {s = s} {l = l} h) e =
    rising-before x s (rising_part h (rising-tail x l e)) (λ y i. rising-below x l e y (in_whole i h))
rising_part (without {x = x} {l = l} h) e = rising_part h (rising-tail x l e)

-- literals that rise, in another order, put in order
pub reorder-ascending : {k l : List ℤ} → rising k ≡ true → Reorder k l → ascending l ≡ k
reorder-ascending {k} {l} e r =
    same-members (ascending l) k (rising-ascending l ∙ sym (reorder-distinct r) ∙ rising-distinct k e) e
    (λ x i. reorder-in (and-back r) (ascending→ l i)) (λ x i. ascending← l (reorder-in r i))

-- The claims

module _ (b : ℕ) {l m : List Weighted} (e : rising (literals l) ≡ true) (r : Reorder l m) where
  -- each body is one of the reordered pairs, put in order
  pub reordered→ : {t : List ℤ} → t ∈ bodies b l → (u : List ℤ) × (u ∈ bodies b m) × (ascending u ≡ t)
  reordered→ {t} i =
      let s = body→ b l i in
      let q = reorder-sublist s.1 r in
      let a = reorder-ascending (rising_part (sublist-map (λ x. x.literal) s.1) e) (reorder-map (λ x. x.literal) q.2) in
      (literals q.0, body← b m q.1 (reorder-minimal b q.2 s.2), a ∙ s.3)

  -- and each of theirs, put in order, is one
  pub reordered← : {u : List ℤ} → u ∈ bodies b m → ascending u ∈ bodies b l
  reordered← {u} i =
      let s = body→ b m i in
      let q = reorder-sublist s.1 (and-back r) in
      let a = reorder-ascending (rising_part (sublist-map (λ x. x.literal) q.1) e) (reorder-map (λ x. x.literal) (and-back q.2)) in
      Memᴰ.cast (ap ascending (sym s.3) ∙ a) (body← b l q.1 (reorder-minimal b q.2 s.2))

pub reordered : Reordered
reordered b l m f e r =
    same_test (any-decides (λ t. itself (f t)) (bodies b l)) (any-decides (λ t. itself (f (ascending t))) (bodies b m))
    (λ q. let u = reordered→ b e r q.1 in (u.0, u.1, rw u.2 q.2))
    (λ q. (ascending q.0, reordered← b e r q.1, q.2))

-- the minimal ones of the sublists all of whose elements pass are the minimal sets of what passes
minimal-of : (b : ℕ) (l : List Weighted) (p : Weighted → Bool) → filter (λ s. all p s && is_minimal b s) (sublists l) ≡ minimal_sets b (filter p l)
unfolding minimal_sets
minimal-of b l p = sym (filter-filter (is_minimal b) (all p) (sublists l)) ∙ ap (filter (is_minimal b)) (sublists-filter p l)

-- each element of a minimal set weighs something
weighs : (b : ℕ) (s : List Weighted) (t : Bool) → is_minimal b s ≡ t → t ≡ (all (λ x. ltb 0 x.weight) s && t)
weighs b s true e =
    let p = if-true (parts b s) e in
    rw (is_true (all-decides (λ x. ltb-decides 0 x.weight) s) (λ x i. omega (arith, p.0, p.1 x i)))
weighs b s false e = sym (and-false (all (λ x. ltb 0 x.weight) s))

pub passing : Passing
unfolding bodies minimal_sets
passing b l p =
    filter_map literals (all p) (minimal_sets b l)
    ∙ ap (map literals)
    (filter-filter (λ s. all p (literals s)) (is_minimal b) (sublists l)
    ∙ filter_same (λ s. is_minimal b s && all p (literals s)) (λ s. all (λ x. p x.literal) s && is_minimal b s) (sublists l)
    (λ s i. rw (all_map (λ x. x.literal) p s) (and_comm (is_minimal b s) (all (λ x. p x.literal) s)))
    ∙ minimal-of b l (λ x. p x.literal))

pub weightless : Weightless
unfolding bodies minimal_sets
weightless b l =
    ap (map literals)
    (sym (filter_same (is_minimal b) (λ s. all (λ x. ltb 0 x.weight) s && is_minimal b s) (sublists l) (λ s i. weighs b s (is_minimal b s) refl)
    ∙ minimal-of b l (λ x. ltb 0 x.weight)))
