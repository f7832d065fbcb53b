-- Laws on lists and their sublists: those that `sublists` lists are those of the relation, and what their weights add up to.
-- Assumes nothing.
use mathlib.Core.Path.{◌≡◌, refl, ap, ◌∙◌}
use mathlib.Core.Logic.{◌⊎◌, inl, inr}
use mathlib.Core.Bool.{Bool, true, false, cond, ◌&&◌, ◌||◌}
use mathlib.Core.List.Memᴰ
use mathlib.Core.List.{List, [], ◌∷◌, ◌++◌, map}
use Prim.Native.Nat.{suc, ◌+◌, ◌≤◌}
use native.Mathlib.Omega.{arith}
use lib.Dec.{T}
use lib.ListN.{length}
use Rattle.words.specs.Lists.{◌∈◌, any, all, filter}
use Rattle.weights.specs.Weights.{Weighted, sum, sublists}
use Rattle.weights.specs.Claims.{◌⊑◌, none, with_it, without}

-- Lists

-- a sublist is no longer
pub sublist-short : {A : Type 0} {s l : List A} → s ⊑ l → length s ≤ length l
sublist-short none = omega arith
sublist-short (with_it a) = omega (arith, sublist-short a)
sublist-short (without a) = omega (arith, sublist-short a)

module _ {A : Type 0} where
  pub filter-append : (f : A → Bool) (k l : List A) → filter f (k ++ l) ≡ filter f k ++ filter f l
  filter-append f [] l = refl
  filter-append f (x ∷ k) l = go (f x) (filter-append f k l)
    where
      go : (t : Bool) → filter f (k ++ l) ≡ filter f k ++ filter f l
          → cond t (x ∷ filter f (k ++ l)) (filter f (k ++ l)) ≡ cond t (x ∷ filter f k) (filter f k) ++ filter f l
      go true e = ap (λ (s : List A). x ∷ s) e
      go false e = e

  pub filter_same : (f g : A → Bool) (l : List A) → ((x : A) → x ∈ l → f x ≡ g x) → filter f l ≡ filter g l
  filter_same f g [] e = refl
  filter_same f g (x ∷ l) e = rw (e x (Memᴰ.head refl), filter_same f g l (λ y m. e y (Memᴰ.tail m)))

  pub filter_none : (f : A → Bool) (l : List A) → ((x : A) → x ∈ l → f x ≡ false) → filter f l ≡ []
  filter_none f [] e = refl
  filter_none f (x ∷ l) e = rw (e x (Memᴰ.head refl), filter_none f l (λ y m. e y (Memᴰ.tail m)))

  pub filter-filter : (f g : A → Bool) (l : List A) → filter f (filter g l) ≡ filter (λ x. g x && f x) l
  filter-filter f g [] = refl
  filter-filter f g (x ∷ l) = go (g x) (filter-filter f g l)
    where
      go : (t : Bool) → filter f (filter g l) ≡ filter (λ y. g y && f y) l
          → filter f (cond t (x ∷ filter g l) (filter g l)) ≡ cond (t && f x) (x ∷ filter (λ y. g y && f y) l) (filter (λ y. g y && f y) l)
      go true e = rw e
      go false e = e

  pub all_append : (f : A → Bool) (k l : List A) → all f (k ++ l) ≡ (all f k && all f l)
  all_append f [] l = refl
  all_append f (x ∷ k) l = go (f x) (all_append f k l)
    where
      go : (t : Bool) → all f (k ++ l) ≡ (all f k && all f l) → (t && all f (k ++ l)) ≡ ((t && all f k) && all f l)
      go true e = e
      go false e = refl

  pub any_append : (f : A → Bool) (k l : List A) → any f (k ++ l) ≡ (any f k || any f l)
  any_append f [] l = refl
  any_append f (x ∷ k) l = go (f x) (any_append f k l)
    where
      go : (t : Bool) → any f (k ++ l) ≡ (any f k || any f l) → (t || any f (k ++ l)) ≡ ((t || any f k) || any f l)
      go true e = refl
      go false e = e

  -- where no element passes
  pub none_pass : (f : A → Bool) (l : List A) → ((x : A) → x ∈ l → f x ≡ false) → any f l ≡ false
  none_pass f [] e = refl
  none_pass f (x ∷ l) e = rw (e x (Memᴰ.head refl), none_pass f l (λ y m. e y (Memᴰ.tail m)))

  pub all_same : (f g : A → Bool) (l : List A) → ((x : A) → x ∈ l → f x ≡ g x) → all f l ≡ all g l
  all_same f g [] e = refl
  all_same f g (x ∷ l) e = rw (e x (Memᴰ.head refl), all_same f g l (λ y m. e y (Memᴰ.tail m)))

  pub any_same : (f g : A → Bool) (l : List A) → ((x : A) → x ∈ l → f x ≡ g x) → any f l ≡ any g l
  any_same f g [] e = refl
  any_same f g (x ∷ l) e = rw (e x (Memᴰ.head refl), any_same f g l (λ y m. e y (Memᴰ.tail m)))

module _ {A B : Type 0} (h : A → B) where
  pub filter_map : (f : B → Bool) (l : List A) → filter f (map h l) ≡ map h (filter (λ x. f (h x)) l)
  filter_map f [] = refl
  filter_map f (x ∷ l) = go (f (h x)) (filter_map f l)
    where
      go : (t : Bool) → filter f (map h l) ≡ map h (filter (λ y. f (h y)) l)
          → cond t (h x ∷ filter f (map h l)) (filter f (map h l)) ≡ map h (cond t (x ∷ filter (λ y. f (h y)) l) (filter (λ y. f (h y)) l))
      go true e = ap (λ (s : List B). h x ∷ s) e
      go false e = e

  pub all_map : (f : B → Bool) (l : List A) → all f (map h l) ≡ all (λ x. f (h x)) l
  all_map f [] = refl
  all_map f (x ∷ l) = rw (all_map f l)

  pub any-map : (f : B → Bool) (l : List A) → any f (map h l) ≡ any (λ x. f (h x)) l
  any-map f [] = refl
  any-map f (x ∷ l) = rw (any-map f l)

-- The list of sublists and the relation

module _ {A : Type 0} where
  pub listed : {s l : List A} → s ⊑ l → s ∈ sublists l
  unfolding sublists
  listed none = Memᴰ.head refl
  listed (with_it {x = x} {l = l} h) = Memᴰ.append_left (sublists l) (Memᴰ.map (λ t. x ∷ t) (listed h))
  listed (without {x = x} {l = l} h) = Memᴰ.append_right (map (λ t. x ∷ t) (sublists l)) (listed h)

  pub is-sublist : {s : List A} (l : List A) → s ∈ sublists l → s ⊑ l
  unfolding sublists
  is-sublist {s} [] m = go m
    where
      go : s ∈ [] ∷ [] → s ⊑ []
      go (Memᴰ.head p) = rw p none
      go (Memᴰ.tail n) = elim n [ ]
  is-sublist {s} (x ∷ l) m = go (λ t n. is-sublist {s = t} l n) (Memᴰ.append_cases (map (λ t. x ∷ t) (sublists l)) m)
    where
      go : ((t : List A) → t ∈ sublists l → t ⊑ l) → (s ∈ map (λ t. x ∷ t) (sublists l)) ⊎ (s ∈ sublists l) → s ⊑ x ∷ l
      go below (inl n) = let r = Memᴰ.of_map (λ t. x ∷ t) (sublists l) n in rw (← r.2) (with_it (below r.0 r.1))
      go below (inr n) = without (below s n)

  pub itself : (l : List A) → l ⊑ l
  itself [] = none
  itself (x ∷ l) = with_it (itself l)

  pub none_of : (l : List A) → [] ⊑ l
  none_of [] = none
  none_of (x ∷ l) = without (none_of l)

  pub through : {r s l : List A} → r ⊑ s → s ⊑ l → r ⊑ l
  through {r} h none = h
  through (with_it {x = x} {s = s} h) (with_it {s = s'} {l = l} k) = with_it (through {r = s} h k)
  through {r} (without h) (with_it k) = without (through {r = r} h k)
  through {r} h (without k) = without (through {r = r} h k)

  -- what passes a test is a sublist
  pub kept : (f : A → Bool) (l : List A) → filter f l ⊑ l
  kept f [] = none
  kept f (x ∷ l) = go (f x) (kept f l)
    where
      go : (t : Bool) → filter f l ⊑ l → cond t (x ∷ filter f l) (filter f l) ⊑ x ∷ l
      go true h = with_it h
      go false h = without h

  -- a sublist all of whose elements pass is a sublist of those that pass
  pub kept_of : (f : A → Bool) {s l : List A} → s ⊑ l → ((x : A) → x ∈ s → T (f x)) → s ⊑ filter f l
  kept_of f none a = none
  kept_of f (with_it {x = x} {s = s} {l = l} h) a = go (f x) (a x (Memᴰ.head refl)) (kept_of f h (λ y m. a y (Memᴰ.tail m)))
    where
      go : (t : Bool) → T t → s ⊑ filter f l → x ∷ s ⊑ cond t (x ∷ filter f l) (filter f l)
      go true u k = with_it k
      go false u k = absurd u
  kept_of f (without {x = x} {s = s} {l = l} h) a = go (f x) (kept_of f h a)
    where
      go : (t : Bool) → s ⊑ filter f l → s ⊑ cond t (x ∷ filter f l) (filter f l)
      go true k = without k
      go false k = k

  -- the sublists all of whose elements pass are those of what passes
  pub sublists-filter : (f : A → Bool) (l : List A) → filter (all f) (sublists l) ≡ sublists (filter f l)
  unfolding sublists
  sublists-filter f [] = refl
  sublists-filter f (x ∷ l) =
      filter-append (all f) (map (λ s. x ∷ s) (sublists l)) (sublists l)
      ∙ ap (λ (t : List (List A)). t ++ filter (all f) (sublists l)) (filter_map (λ s. x ∷ s) (all f) (sublists l))
      ∙ go (f x) (sublists-filter f l)
    where
      go : (t : Bool) → filter (all f) (sublists l) ≡ sublists (filter f l)
          → map (λ s. x ∷ s) (filter (λ s. t && all f s) (sublists l)) ++ filter (all f) (sublists l) ≡ sublists (cond t (x ∷ filter f l) (filter f l))
      go true e = rw e
      go false e = rw (filter_none (λ s. false) (sublists l) (λ s i. refl)) e

  -- an element of a sublist is one of the list
  pub in_whole : {x : A} {s l : List A} → x ∈ s → s ⊑ l → x ∈ l
  in_whole m none = m
  in_whole (Memᴰ.head p) (with_it h) = Memᴰ.head p
  in_whole (Memᴰ.tail m) (with_it h) = Memᴰ.tail (in_whole m h)
  in_whole m (without h) = Memᴰ.tail (in_whole m h)

pub sublist-map : {A B : Type 0} (f : A → B) {s l : List A} → s ⊑ l → map f s ⊑ map f l
sublist-map f none = none
sublist-map f (with_it h) = with_it (sublist-map f h)
sublist-map f (without h) = without (sublist-map f h)

-- Weights

-- the weights of a sublist add up to no more
pub sum-le : {s l : List Weighted} → s ⊑ l → sum s ≤ sum l
sum-le none = omega arith
sum-le (with_it {x = x} {s = s} {l = l} h) = omega (arith, sum-le h)
sum-le (without {x = x} {s = s} {l = l} h) = omega (arith, sum-le h)

-- a proper sublist lacks the weight of some element
pub lacks : {t s : List Weighted} → t ⊑ s → ¬ (t ≡ s) → (x : Weighted) × (x ∈ s) × (sum t + x.weight ≤ sum s)
lacks none n = absurd (n refl)
lacks (with_it {x = x} {s = t} {l = s} h) n =
    let r = lacks h (λ e. n (ap (λ (k : List Weighted). x ∷ k) e)) in (r.0, Memᴰ.tail r.1, omega (arith, r.2))
lacks (without {x = x} {s = t} {l = s} h) n = (x, Memᴰ.head refl, omega (arith, sum-le h))

-- the list without one element: a proper sublist, and its weight
pub record Lighter (x : Weighted) (s : List Weighted) : Type 0 where
  pub rest : List Weighted
  pub part : rest ⊑ s
  pub shorter : suc (length rest) ≤ length s
  pub weighs : sum rest + x.weight ≡ sum s

pub lighter : {x : Weighted} {s : List Weighted} → x ∈ s → Lighter x s
lighter {x} (Memᴰ.head {x = y} {xs = s} p) =
    record { rest = s; part = without (itself s); shorter = omega arith; weighs = rw p (omega arith) }
lighter {x} (Memᴰ.tail {x = y} {xs = s} m) =
    let r = lighter m in
    record { rest = y ∷ r.rest; part = with_it r.part; shorter = omega (arith, r.shorter); weighs = omega (arith, r.weighs) }
