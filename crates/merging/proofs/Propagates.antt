-- Propagation under covering: where each live nogood of a half is covered in the merged store, what leads to a conflict in the half
-- does so in the merged store, once the half's literal is given too. Assumes nothing.
use mathlib.Core.Path.{◌≡◌, refl, sym, ap, ◌∙◌}
use mathlib.Core.Logic.{◌⊎◌, inl, inr, ◌≢◌}
use mathlib.Core.List.Memᴰ
use mathlib.Core.List.{List, [], ◌∷◌, map}
use Prim.Native.Nat.{ℕ, zero, suc}
use lib.IntN.{ℤ, pos, negsuc}
use Rattle.words.specs.Lists.{◌∈◌}
use Rattle.words.specs.Literals.{variable, complement, same, has}
use Rattle.words.proofs.Lists.{answered, not-decides}
use Rattle.words.proofs.Literals.{same-decides, has-decides, complement-twice, variable-complement}
use Rattle.derivation.specs.Propagation.{Closure, given, unit, Conflict}
use Rattle.merging.specs.Merge.{renamed}

-- of every element of a list, one of two: all the first, or the second
pub each : {A : Type 0} {F : A → Type 0} {G : Type 0} (l : List A) → ((x : A) → x ∈ l → F x ⊎ G) → ((x : A) → x ∈ l → F x) ⊎ G
each [] h = inl (λ x m. elim m [ ])
each {A} {F} {G} (y ∷ l) h = go (h y (Memᴰ.head refl)) (each l (λ x m. h x (Memᴰ.tail m)))
  where
    at : F y → ((x : A) → x ∈ l → F x) → {x : A} → x ∈ y ∷ l → F x
    at u v (Memᴰ.head p) = rw p u
    at u v {x} (Memᴰ.tail m) = v x m

    go : F y ⊎ G → ((x : A) → x ∈ l → F x) ⊎ G → ((x : A) → x ∈ y ∷ l → F x) ⊎ G
    go (inl u) (inl v) = inl (λ x m. at u v m)
    go (inl u) (inr g) = inr g
    go (inr g) v = inr g

-- Literals under new names

module _ (f : ℕ → ℕ) (zero-stays : f 0 ≡ 0) where
  pub renamed-complement : (y : ℤ) → renamed f (complement y) ≡ complement (renamed f y)
  renamed-complement (pos zero) = rw zero-stays refl
  renamed-complement (pos (suc n)) = refl
  renamed-complement (negsuc n) = sym (complement-twice (pos (f (suc n))))

pub renamed-variable : (f : ℕ → ℕ) (y : ℤ) → variable (renamed f y) ≡ f (variable y)
renamed-variable f (pos n) = refl
renamed-variable f (negsuc n) = variable-complement (pos (f (suc n)))

-- Covering

module _ (f : ℕ → ℕ) (x : ℤ) where
  -- A nogood of the half is covered: under the new names it holds the complement of the half's literal, or some live nogood of the
  -- merged proof has no other literals than it, save the half's.
  abbrev pub Covered : List (List ℤ) → List ℤ → Type 0
  Covered live g = (complement x ∈ map (renamed f) g) ⊎ ((h : List ℤ) × (h ∈ live) × ((k : ℤ) → k ∈ h → (k ≡ x) ⊎ (k ∈ map (renamed f) g)))

  module _ (zero-stays : f 0 ≡ 0) (live live' : List (List ℤ)) (cover : (g : List ℤ) → g ∈ live → Covered live' g)
      (L L' : List ℤ) (base : (y : ℤ) → y ∈ L → renamed f y ∈ L') (here : x ∈ L') where
    -- all literals of a live nogood are in the closure
    all_in : (h : List ℤ) → h ∈ live' → ((k : ℤ) → k ∈ h → Closure live' L' k) → Conflict live' L'
    all_in [] m a = inr m
    all_in (k ∷ h) m a =
        inl (k, a k (Memᴰ.head refl), unit {x = complement k} (k ∷ h) m (rw complement-twice (Memᴰ.head refl)) (λ j n d. a j n))

    -- what the nogood g of the half derives, from its other literals
    derived : (y : ℤ) (g : List ℤ) → g ∈ live → complement y ∈ g
        → ((k : ℤ) → k ∈ g → k ≢ complement y → Closure live' L' (renamed f k)) → Closure live' L' (renamed f y) ⊎ Conflict live' L'
    derived y g m c others = by (cover g m)
      where
        there : renamed f (complement y) ≡ complement (renamed f y)
        there = renamed-complement f zero-stays y

        -- a literal of g under its new name is in the closure, unless it is the complement of what is derived
        old : (k : ℤ) → k ∈ map (renamed f) g → k ≢ complement (renamed f y) → Closure live' L' k
        old k n d = let r = Memᴰ.of_map (renamed f) g n in go r.0 r.1 r.2
          where
            go : (j : ℤ) → j ∈ g → renamed f j ≡ k → Closure live' L' k
            go j u p = rw (← p) (others j u (λ e. d (sym p ∙ (ap (renamed f) e ∙ there))))

        by : Covered live' g → Closure live' L' (renamed f y) ⊎ Conflict live' L'
        by (inl n) = elim (answered (same (complement x) (complement (renamed f y)))) [
          | inl t ↦ inl (given (Memᴰ.cast (sym (back ((same-decides _ _).to t))) here))
          | inr t ↦ inr (inl (x, given here, old (complement x) n ((not-decides (same-decides _ _)).to t)))
        ]
          where
            back : complement x ≡ complement (renamed f y) → x ≡ renamed f y
            back p = sym (complement-twice x) ∙ (ap complement p ∙ complement-twice (renamed f y))
        by (inr r) = go r.0 r.1 r.2
          where
            go : (h : List ℤ) → h ∈ live' → ((k : ℤ) → k ∈ h → (k ≡ x) ⊎ (k ∈ map (renamed f) g)) → Closure live' L' (renamed f y) ⊎ Conflict live' L'
            go h n inside = elim (answered (has (complement (renamed f y)) h)) [
              | inl t ↦ inl (unit h n ((has-decides _ h).to t) in-closure)
              | inr t ↦ inr (all_in h n (λ k u. in-closure k u (λ e. (not-decides (has-decides _ h)).to t (Memᴰ.cast (sym e) u))))
            ]
              where
                in-closure : (k : ℤ) → k ∈ h → k ≢ complement (renamed f y) → Closure live' L' k
                in-closure k u d = elim (inside k u) [ inl e ↦ given (Memᴰ.cast e here) | inr v ↦ old k v d ]

    pub closure-follows : {y : ℤ} → Closure live L y → Closure live' L' (renamed f y) ⊎ Conflict live' L'
    closure-follows (given m) = inl (given (base _ m))
    closure-follows (unit {x = y} g m c others) = go (λ k n d. closure-follows (others k n d))
      where
        Follows : ℤ → Type 0
        Follows k = k ≢ complement y → Closure live' L' (renamed f k)

        split : ((k : ℤ) → k ∈ g → k ≢ complement y → Closure live' L' (renamed f k) ⊎ Conflict live' L') → (k : ℤ) → k ∈ g → Follows k ⊎ Conflict live' L'
        split below k n = elim (answered (same k (complement y))) [
          | inl t ↦ inl (λ d. absurd (d ((same-decides k (complement y)).to t)))
          | inr t ↦ elim (below k n ((not-decides (same-decides k (complement y))).to t)) [ inl u ↦ inl (λ d. u) | inr r ↦ inr r ]
        ]

        go : ((k : ℤ) → k ∈ g → k ≢ complement y → Closure live' L' (renamed f k) ⊎ Conflict live' L') → Closure live' L' (renamed f y) ⊎ Conflict live' L'
        go below = elim (each {F = Follows} g (split below)) [ inl a ↦ derived y g m c a | inr r ↦ inr r ]

    pub conflict-follows : Conflict live L → Conflict live' L'
    conflict-follows (inl r) = both (closure-follows r.1) (closure-follows r.2)
      where
        both : Closure live' L' (renamed f r.0) ⊎ Conflict live' L' → Closure live' L' (renamed f (complement r.0)) ⊎ Conflict live' L' → Conflict live' L'
        both (inl u) (inl v) = inl (renamed f r.0, u, rw (← renamed-complement f zero-stays r.0) v)
        both (inl u) (inr c) = c
        both (inr c) v = c
    conflict-follows (inr m) = by (cover [] m)
      where
        by : Covered live' [] → Conflict live' L'
        by (inl n) = elim n [ ]
        by (inr r) = all_in r.0 r.1 (λ k u. elim (r.2 k u) [ inl e ↦ given (Memᴰ.cast e here) | inr v ↦ elim v [ ] ])

-- The end: where the empty nogood is live in both halves, nothing but the empty line is needed

-- a live nogood of the merged proof has no literal but x
abbrev pub Only : List (List ℤ) → ℤ → Type 0
Only live x = (h : List ℤ) × (h ∈ live) × ((k : ℤ) → k ∈ h → k ≡ x)

pub only_of : (f : ℕ → ℕ) (x : ℤ) (live : List (List ℤ)) → Covered f x live [] → Only live x
only_of f x live (inl n) = elim n [ ]
only_of f x live (inr r) = (r.0, r.1, λ k u. elim (r.2 k u) [ inl e ↦ e | inr v ↦ elim v [ ] ])

module _ (live : List (List ℤ)) where
  -- the complement of the literal follows from nothing, or the empty nogood is live
  follows : (x : ℤ) → Only live x → Closure live [] (complement x) ⊎ ([] ∈ live)
  follows x ([], m, a) = inr m
  follows x (k ∷ h, m, a) =
      inl (unit {x = complement x} (k ∷ h) m (rw complement-twice (Memᴰ.cast (sym (a k (Memᴰ.head refl))) (Memᴰ.head refl))) (λ j n d. absurd (d (rw complement-twice (a j n)))))

  pub closing : (x : ℤ) → Only live x → Only live (complement x) → Conflict live []
  closing x p q = by (follows x p) (follows (complement x) q)
    where
      by : Closure live [] (complement x) ⊎ ([] ∈ live) → Closure live [] (complement (complement x)) ⊎ ([] ∈ live) → Conflict live []
      by (inl u) (inl v) = inl (complement x, u, v)
      by (inl u) (inr m) = inr m
      by (inr m) v = inr m
