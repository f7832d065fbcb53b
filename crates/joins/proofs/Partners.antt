-- With a share of the left side one share of the right is just enough, or none. Assumes nothing.
use mathlib.Core.Path.{◌≡◌, refl, sym, ap, subst, ◌∙◌}
use mathlib.Core.Bool.{Bool, true, false, cond}
use mathlib.Core.List.{List, [], ◌∷◌, map}
use mathlib.Core.Logic.{◌⊎◌, inl, inr}
use Prim.Native.Nat.{ℕ, zero, suc, ◌+◌, ◌-◌, ◌≤◌, ◌<◌}
use native.Mathlib.Omega.{arith}
use borrow.Author.Tests.{ltb-true, ltb-false}
use lib.Dec.{ltb}
use lib.ListN.{length, get_or, get_or-eq_default}
use Rattle.std.specs.Prelude.{Some, None}
use Rattle.words.specs.Lists.{◌∈◌, filter}
use Rattle.words.proofs.Lists.{Decides, failed, is_true, leb-decides, and-decides, or-decides, not-decides, all-decides}
use Rattle.words.proofs.Places.{in-at, place-of}
use Rattle.weights.specs.Weights.{most_weight}
use Rattle.weights.proofs.Sublists.{filter_none}
use Rattle.weights.proofs.Minimal.{ltb-decides}
use Rattle.sums.specs.Plans.{numbered, Share, share, is_just_enough}
use Rattle.totalizer.specs.Lists.{SumsUpTo, below}
use Rattle.totalizer.proofs.Below.{found-reaches, found_first, beside, climbs}
use Rattle.joins.specs.Joining.{share_at, shares_of, only_share, Partner}

-- one element passes at most
filter-only : {A : Type 0} (d : A) (f : A → Bool) (l : List A) (j : ℕ) → j < length l
    → ((k : ℕ) → k < length l → ¬ (k ≡ j) → f (get_or l k d) ≡ false) → filter f l ≡ cond (f (get_or l j d)) (get_or l j d ∷ []) []
filter-only d f [] j h n = absurd (omega arith)
filter-only d f (x ∷ l) zero h n =
    rw (filter_none f l (λ y m. let p = place-of d m in subst (λ z. f z ≡ false) p.2 (n (suc p.0) (omega (arith, p.1)) (λ e. omega arith))))
filter-only d f (x ∷ l) (suc j) h n =
    rw (n 0 (omega arith) (λ e. omega arith))
    (filter-only d f l j (omega arith) (λ k g e. n (suc k) (omega arith) (λ q. e (omega arith))))

-- Shares by their places

abbrev pub first : Share
first = record { level = 0; said = [] }

shares-long : (n : ℕ) (ts : List ℕ) → length (map share (numbered n [] ts)) ≡ length ts
shares-long n [] = refl
shares-long n (t ∷ ts) = ap suc (shares-long (suc n) ts)

pub shares-length : (n : ℕ) (ts : List ℕ) → length (shares_of n ts) ≡ suc (length ts)
shares-length n ts = ap suc (shares-long n ts)

above : (n : ℕ) (ts : List ℕ) (i : ℕ) → i < length ts → get_or (map share (numbered n [] ts)) i first ≡ share_at n ts (suc i)
above n [] i h = absurd (omega arith)
above n (t ∷ ts) zero h = let e : n ≡ n + 0 = omega arith in ap (λ (m : ℕ). share (record { atom = m; pairs = []; bound = t })) e
above n (t ∷ ts) (suc i) h =
    let e : suc n + i ≡ n + suc i = omega arith in
    above (suc n) ts i (omega arith) ∙ ap (λ (m : ℕ). share (record { atom = m; pairs = []; bound = get_or ts i 0 })) e

pub share-at : (n : ℕ) (ts : List ℕ) (i : ℕ) → i ≤ length ts → get_or (shares_of n ts) i first ≡ share_at n ts i
share-at n ts zero h = refl
share-at n ts (suc i) h = above n ts i (omega arith)

share_in : (n : ℕ) (ts : List ℕ) (i : ℕ) → i ≤ length ts → share_at n ts i ∈ shares_of n ts
share_in n ts i h =
    subst (λ v. v ∈ shares_of n ts) (share-at n ts i h) (in-at first (shares_of n ts) i (omega (arith, shares-length n ts)))

-- the level of a share is one of the levels
level_in : (n : ℕ) (ts : List ℕ) {v : Share} → v ∈ shares_of n ts → v.level ∈ 0 ∷ ts
level_in n ts {v} m =
    let p = place-of first m in
    let h : p.0 ≤ length ts = omega (arith, p.1, shares-length n ts) in
    subst (λ w. w.level ∈ 0 ∷ ts) p.2 (subst (λ w. w.level ∈ 0 ∷ ts) (sym (share-at n ts p.0 h)) (in-at 0 (0 ∷ ts) p.0 (omega arith)))

-- The partner of a share

module _ (t : ℕ) (us vs : List ℕ) (a : SumsUpTo most_weight (0 ∷ us)) (c : SumsUpTo most_weight (0 ∷ vs)) (i : ℕ) (here : i ≤ length us)
    (n m : ℕ) where
  abbrev x : ℕ
  x = get_or (0 ∷ us) i 0

  abbrev level : ℕ → ℕ
  level k = get_or (0 ∷ vs) k 0

  abbrev j : ℕ
  j = below (t - x) (0 ∷ vs)

  abbrev test : ℕ → Bool
  test k = is_just_enough t (shares_of n us) (shares_of m vs) (share_at n us i) (share_at m vs k)

  abbrev Just : ℕ → Type 0
  Just k =
      (t ≤ x + level k)
      × (((v : Share) → v ∈ shares_of n us → (x ≤ v.level) ⊎ (v.level + level k < t))
      × ((v : Share) → v ∈ shares_of m vs → (level k ≤ v.level) ⊎ (x + v.level < t)))

  decided : (k : ℕ) → Decides (test k) (Just k)
  decided k =
      and-decides (leb-decides t (x + level k))
      (and-decides
      (all-decides (λ v. or-decides (leb-decides x v.level) (ltb-decides (v.level + level k) t)) (shares_of n us))
      (all-decides (λ v. or-decides (leb-decides (level k) v.level) (ltb-decides (x + v.level) t)) (shares_of m vs)))

  -- only the first that is enough
  only : (k : ℕ) → k ≤ length vs → Just k → (j ≤ length vs) × (k ≡ j)
  only k h p =
      let q = p.0 in
      let f = found_first (t - x) 0 (0 ∷ vs) c.ascend (level k) (in-at 0 (0 ∷ vs) k (omega arith)) (omega arith) in
      let g = found-reaches (t - x) (0 ∷ vs) f.0 in
      let low : level k ≤ level j = by (p.1.1 (share_at m vs j) (share_in m vs j (omega (arith, f.0)))) g in
      (omega (arith, f.0), same low f.1 f.0 (ltb k j) (ltb j k) refl refl)
    where
      by : (level k ≤ level j) ⊎ (x + level j < t) → t - x ≤ level j → level k ≤ level j
      by (inl l) g = l
      by (inr l) g = absurd (omega arith)

      same : level k ≤ level j → level j ≤ level k → j < suc (length vs) → (b d : Bool) → ltb k j ≡ b → ltb j k ≡ d → k ≡ j
      same l r f true d e g = absurd (let y = climbs 0 (0 ∷ vs) c.ascend k j (ltb-true k j e) (omega arith) in omega arith)
      same l r f false true e g = absurd (let y = climbs 0 (0 ∷ vs) c.ascend j k (ltb-true j k g) (omega arith) in omega arith)
      same l r f false false e g = let y = ltb-false k j e in let z = ltb-false j k g in omega arith

  none-else : (k : ℕ) → k ≤ length vs → ¬ (k ≡ j) → test k ≡ false
  none-else k h e = failed _ ((not-decides (decided k)).from (λ p. e (only k h p).1))

  -- the one is just enough where no lower share of the left side would do
  reaches : j ≤ length vs → t ≤ x + level j
  reaches h = let g = found-reaches (t - x) (0 ∷ vs) (omega arith) in omega arith

  lowest : (v : Share) → v ∈ shares_of m vs → (level j ≤ v.level) ⊎ (x + v.level < t)
  lowest v k = by (ltb (x + v.level) t) refl
    where
      by : (b : Bool) → ltb (x + v.level) t ≡ b → (level j ≤ v.level) ⊎ (x + v.level < t)
      by true e = inr (ltb-true (x + v.level) t e)
      by false e =
          let g = ltb-false (x + v.level) t e in
          inl (found_first (t - x) 0 (0 ∷ vs) c.ascend v.level (level_in m vs k) (omega arith)).1

  first_passes : j ≤ length vs → i ≡ 0 → test j ≡ true
  first_passes h e =
      is_true (decided j)
      (reaches h, ((λ v k. let z : x ≡ 0 = ap (λ (p : ℕ). get_or (0 ∷ us) p 0) e in inl (omega arith)), lowest))

  module _ (h : j ≤ length vs) (p : ℕ) (e : i ≡ suc p) where
    to : get_or (0 ∷ us) p 0 + level j < t → Just j
    to l = (reaches h, ((λ v k. by v.level (beside 0 (0 ∷ us) a.ascend i (omega arith) v.level (level_in n us k))), lowest))
      where
        by : (w : ℕ) → (x ≤ w) ⊎ ((q : ℕ) × (i ≡ suc q) × (w ≤ get_or (0 ∷ us) q 0)) → (x ≤ w) ⊎ (w + level j < t)
        by w (inl q) = inl q
        by w (inr (q, d, r)) =
            let s : q ≡ p = omega arith in
            let u = subst (λ z. w ≤ get_or (0 ∷ us) z 0) s r in
            inr (omega arith)

    from : Just j → get_or (0 ∷ us) p 0 + level j < t
    from q = by (q.1.0 (share_at n us p) (share_in n us p (omega arith)))
      where
        by : (x ≤ get_or (0 ∷ us) p 0) ⊎ (get_or (0 ∷ us) p 0 + level j < t) → get_or (0 ∷ us) p 0 + level j < t
        by (inl l) =
            let s = climbs 0 (0 ∷ us) a.ascend p (suc p) (omega arith) (omega arith) in
            let z : x ≡ get_or (0 ∷ us) (suc p) 0 = ap (λ w. get_or (0 ∷ us) w 0) e in
            absurd (omega arith)
        by (inr l) = l

  -- What the search for it finds

  passing : j ≤ length vs → filter (is_just_enough t (shares_of n us) (shares_of m vs) (share_at n us i)) (shares_of m vs) ≡ cond (test j) (share_at m vs j ∷ []) []
  passing h =
      let f = is_just_enough t (shares_of n us) (shares_of m vs) (share_at n us i) in
      let l = shares-length m vs in
      filter-only first f (shares_of m vs) j (omega arith)
      (λ k g e. ap f (share-at m vs k (omega arith)) ∙ none-else k (omega arith) e)
      ∙ ap (λ (y : Share). cond (f y) (y ∷ []) []) (share-at m vs j h)

  pub partner-past : length vs < j → filter (is_just_enough t (shares_of n us) (shares_of m vs) (share_at n us i)) (shares_of m vs) ≡ []
  partner-past h =
      let f = is_just_enough t (shares_of n us) (shares_of m vs) (share_at n us i) in
      let l = shares-length m vs in
      filter_none f (shares_of m vs)
      (λ y g.
      let p = place-of first g in
      let k : p.0 ≤ length vs = omega (arith, p.1) in
      subst (λ z. f z ≡ false) (sym (share-at m vs p.0 k) ∙ p.2) (none-else p.0 k (λ e. omega arith)))

  pub partner-first : j ≤ length vs → i ≡ 0
      → filter (is_just_enough t (shares_of n us) (shares_of m vs) (share_at n us i)) (shares_of m vs) ≡ only_share m vs (Some j)
  partner-first h e = passing h ∙ rw (first_passes h e)

  pub partner-later : j ≤ length vs → (p : ℕ) → i ≡ suc p → get_or (0 ∷ us) p 0 + level j < t
      → filter (is_just_enough t (shares_of n us) (shares_of m vs) (share_at n us i)) (shares_of m vs) ≡ only_share m vs (Some j)
  partner-later h p e l =
      passing h ∙ rw (is_true (decided j) (to h p e l))

  pub partner-missed : j ≤ length vs → (p : ℕ) → i ≡ suc p → t ≤ get_or (0 ∷ us) p 0 + level j
      → filter (is_just_enough t (shares_of n us) (shares_of m vs) (share_at n us i)) (shares_of m vs) ≡ []
  partner-missed h p e l =
      passing h ∙ rw (failed (test j) ((not-decides (decided j)).from (λ q. let r = from h p e q in omega arith)))

-- and as the code goes
module _ (t i : ℕ) {us vs : List ℕ} {x need j : ℕ} (a : SumsUpTo most_weight (0 ∷ us)) (c : SumsUpTo most_weight (0 ∷ vs)) (here : i ≤ length us)
    (ex : x ≡ get_or (0 ∷ us) i 0) (en : need ≡ t - x) (ej : j ≡ below need (0 ∷ vs)) where
  is : j ≡ below (t - get_or (0 ∷ us) i 0) (0 ∷ vs)
  is = ej ∙ ap (λ k. below k (0 ∷ vs)) (en ∙ ap (λ k. t - k) ex)

  pub found-past : length vs < j → Partner t us vs i None
  unfolding Partner
  found-past h n m = partner-past t us vs a c i here n m (omega (arith, is))

  pub found-first-share : j ≤ length vs → i ≡ 0 → Partner t us vs i (Some j)
  unfolding Partner
  found-first-share h e n m = rw is (partner-first t us vs a c i here n m (omega (arith, is)) e)

  module _ (h : j ≤ length vs) (e : ¬ (i ≡ 0)) {y z : ℕ} (ey : y ≡ get_or (0 ∷ us) (i - 1) 0) (ez : z ≡ get_or (0 ∷ vs) j 0) where
    before : i ≡ suc (i - 1)
    before = by i e
      where
        by : (k : ℕ) → ¬ (k ≡ 0) → k ≡ suc (k - 1)
        by zero q = absurd (q refl)
        by (suc k) q = omega arith

    beside-it : z ≡ get_or (0 ∷ vs) (below (t - get_or (0 ∷ us) i 0) (0 ∷ vs)) 0
    beside-it = ez ∙ ap (λ k. get_or (0 ∷ vs) k 0) is

    pub found-later : y + z < t → Partner t us vs i (Some j)
    unfolding Partner
    found-later l n m = rw is (partner-later t us vs a c i here n m (omega (arith, is)) (i - 1) before (omega (arith, ey, beside-it)))

    pub found-missed : t ≤ y + z → Partner t us vs i None
    unfolding Partner
    found-missed l n m =
        partner-missed t us vs a c i here n m (omega (arith, is)) (i - 1) before (omega (arith, ey, beside-it))

pub level-after : (ts : List ℕ) (i : ℕ) → ¬ (i ≡ 0) → get_or ts (i - 1) 0 ≡ get_or (0 ∷ ts) i 0
level-after ts zero h = absurd (h refl)
level-after ts (suc i) h = let e : suc i - 1 ≡ i = omega arith in ap (λ k. get_or ts k 0) e

-- a level is no more than a weight may be, also past the end
pub level-low : {us : List ℕ} → SumsUpTo most_weight us → (i : ℕ) → get_or us i 0 ≤ most_weight
level-low {us} a i = by (ltb i (length us)) refl
  where
    by : (t : Bool) → ltb i (length us) ≡ t → get_or us i 0 ≤ most_weight
    by true e = a.low _ (in-at 0 us i (ltb-true i (length us) e))
    by false e = let h = get_or-eq_default us 0 (ltb-false i (length us) e) in omega arith
