-- Descending chains: one more place on top, fewer members, one place unlinked, and a step of a walk.
-- Assumes nothing.
use mathlib.Core.Path.{◌≡◌, refl, sym, ◌∙◌}
use mathlib.Core.Logic.{◌⊎◌, inl, inr}
use mathlib.Core.Bool.{Bool, true, false}
use mathlib.Core.List.{List}
use Prim.Native.Nat.{ℕ, zero, suc, ◌+◌, ◌≤◌, ◌<◌}
use native.Mathlib.Omega.{arith}
use borrow.Author.Tests.{ltb-true, ltb-false}
use lib.Dec.{ltb}
use lib.ListN.{length, get_or, set}
use lib.Seq.{get_or-set_same, get_or-set_other}
use Rattle.words.specs.Descending.{Descends, Leads, Changed, Unchanged}
use Rattle.words.proofs.Places.{equal?}

-- a number is below another, or not
pub below? : (a b : ℕ) → (a < b) ⊎ (b ≤ a)
below? a b = by (ltb a b) refl
  where
    by : (t : Bool) → ltb a b ≡ t → (a < b) ⊎ (b ≤ a)
    by true e = inl (ltb-true a b e)
    by false e = inr (ltb-false a b e)

-- Entries that stand in a list from a on, before and after a store

pub changed : (l : List ℕ) (a n i v : ℕ) → a + i < length l → Changed n (λ j. get_or l (a + j) 0) (λ j. get_or (set l (a + i) v) (a + j) 0) i v
changed l a n i v h j b = elim (equal? j i) [
  | inl e ↦ inl (e, rw e (get_or-set_same l (a + i) v 0 h))
  | inr d ↦ inr (d, get_or-set_other l (a + i) (a + j) v 0 (λ e. d (omega arith)))
]

-- a store outside of them
pub unchanged : (l : List ℕ) (a n i v : ℕ) → (i < a) ⊎ (a + n ≤ i) → Unchanged n (λ j. get_or l (a + j) 0) (λ j. get_or (set l i v) (a + j) 0)
unchanged l a n i v (inl o) j b = get_or-set_other l i (a + j) v 0 (λ e. omega arith)
unchanged l a n i v (inr o) j b = get_or-set_other l i (a + j) v 0 (λ e. omega arith)

module _ {keys places : ℕ} {M S : ℕ → ℕ → Type 0} {bucket before : ℕ → ℕ} (D : Descends keys places M S bucket before) where
  -- fewer members
  pub fewer : {M' : ℕ → ℕ → Type 0} → ((x k : ℕ) → M' x k → M x k) → Descends keys places M' S bucket before
  fewer f = record {
    member = λ x k m. D.member x k (f x k m);
    within = D.within;
    top = λ x k m. D.top x k (f x k m);
    down = λ x y k m. D.down x y k (f x k m);
    first = D.first;
    next = D.next;
  }

  -- the same places, said otherwise
  pub same-places : {S' : ℕ → ℕ → Type 0} → ((x k : ℕ) → S x k → S' x k) → ((x k : ℕ) → S' x k → S x k) → Descends keys places M S' bucket before
  same-places f g = record {
    member = λ x k m. f x k (D.member x k m);
    within = λ x k s. D.within x k (g x k s);
    top = D.top;
    down = λ x y k m s. D.down x y k m (g y k s);
    first = λ k p b e. f p k (D.first k p b e);
    next = λ y k p s e. let n = D.next y k p (g y k s) e in (f p k n.0, n.1);
  }

  -- the same entries elsewhere
  pub same_entries : {bucket' before' : ℕ → ℕ} → Unchanged keys bucket bucket' → Unchanged places before before' → Descends keys places M S bucket' before'
  same_entries {bucket'} {before'} b c = record {
    member = D.member;
    within = D.within;
    top = λ x k m. rw (b k (D.within x k (D.member x k m)).1) (D.top x k m);
    down = λ x y k m s l. rw (c y (D.within y k s).0) (D.down x y k m s l);
    first = λ k p h e. D.first k p h (sym (b k h) ∙ e);
    next = λ y k p s e. D.next y k p s (sym (c y (D.within y k s).0) ∙ e);
  }

  -- a place above all others goes on top of its chain
  module _ {M' S' : ℕ → ℕ → Type 0} {bucket' before' : ℕ → ℕ} (x h : ℕ) (above : (y k : ℕ) → S y k → y < x)
      (members : (y k : ℕ) → M' y k → M y k ⊎ ((y ≡ x) × (k ≡ h)))
      (old : (y k : ℕ) → S y k → S' y k) (new : S' x h)
      (either : (y k : ℕ) → S' y k → S y k ⊎ ((y ≡ x) × (k ≡ h)))
      (xb : x < places) (hb : h < keys) (buckets : Changed keys bucket bucket' h (suc x)) (befores : Changed places before before' x (bucket h)) where
    enter-member : (y k : ℕ) → M' y k → S' y k
    enter-member y k m = elim (members y k m) [ inl o ↦ old y k (D.member y k o) | inr n ↦ rw (n.0, n.1) new ]

    enter-within : (y k : ℕ) → S' y k → (y < places) × (k < keys)
    enter-within y k s = elim (either y k s) [ inl o ↦ D.within y k o | inr n ↦ (omega (arith, n.0), omega (arith, n.1)) ]

    enter-top : (y k : ℕ) → M' y k → y < bucket' k
    enter-top y k m = elim (buckets k (enter-within y k (enter-member y k m)).1) [
      | inl s ↦ elim (members y k m) [
        | inl o ↦ omega (arith, s.1, above y k (D.member y k o))
        | inr n ↦ omega (arith, s.1, n.0)
      ]
      | inr s ↦ elim (members y k m) [
        | inl o ↦ omega (arith, s.1, D.top y k o)
        | inr n ↦ absurd (s.0 n.1)
      ]
    ]

    enter-down : (a y k : ℕ) → M' a k → S' y k → a < y → a < before' y
    enter-down a y k m s l = elim (members a k m) [
      | inr n ↦ elim (either y k s) [
        | inl o ↦ absurd (omega (arith, above y k o, n.0))
        | inr q ↦ absurd (omega (arith, q.0, n.0))
      ]
      | inl o ↦ elim (either y k s) [
        | inl p ↦ elim (befores y (D.within y k p).0) [
          | inl w ↦ absurd (omega (arith, above y k p, w.0))
          | inr w ↦ omega (arith, w.1, D.down a y k o p l)
        ]
        | inr q ↦ elim (befores y (omega (arith, q.0))) [
          | inl w ↦ rw (w.1, ← q.1) (D.top a k o)
          | inr w ↦ absurd (w.0 q.0)
        ]
      ]
    ]

    enter-first : (k p : ℕ) → k < keys → bucket' k ≡ suc p → S' p k
    enter-first k p b e = elim (buckets k b) [
      | inl s ↦ let z : p ≡ x = omega (arith, s.1) in rw (z, s.0) new
      | inr s ↦ old p k (D.first k p b (sym s.1 ∙ e))
    ]

    enter-next : (y k p : ℕ) → S' y k → before' y ≡ suc p → S' p k × (p < y)
    enter-next y k p s e = elim (either y k s) [
      | inl o ↦ elim (befores y (D.within y k o).0) [
        | inl w ↦ absurd (omega (arith, above y k o, w.0))
        | inr w ↦ let n = D.next y k p o (sym w.1 ∙ e) in (old p k n.0, n.1)
      ]
      | inr q ↦ elim (befores y (omega (arith, q.0))) [
        | inl w ↦
            let f : S p h = D.first h p hb (sym w.1 ∙ e) in
            (rw q.1 (old p h f), omega (arith, above p h f, q.0))
        | inr w ↦ absurd (w.0 q.0)
      ]
    ]

    pub entered : Descends keys places M' S' bucket' before'
    entered = record { member = enter-member; within = enter-within; top = enter-top; down = enter-down; first = enter-first; next = enter-next }

  -- a place that is no member any more is unlinked
  module _ (d : ℕ) (gone : (k : ℕ) → ¬ M d k) where
    lower : (a k : ℕ) → M a k → S d k → a < suc d → a < before d
    lower a k m s l =
        elim (equal? a d) [
          | inl e ↦ absurd (gone k (rw e at m))
          | inr n ↦ D.down a d k m s (omega arith)
        ]

    pub unlinked-first : {bucket' : ℕ → ℕ} (h : ℕ) → h < keys → bucket h ≡ suc d → Changed keys bucket bucket' h (before d)
        → Descends keys places M S bucket' before
    unlinked-first {bucket'} h hb is c =
        let s : S d h = D.first h d hb is in
        record {
          member = D.member;
          within = D.within;
          top = λ x k m. elim (c k (D.within x k (D.member x k m)).1) [
            | inl w ↦ let g : S d k = rw w.0 s in let u : x < suc d = omega (arith, D.top x k m, is, kb k w.0) in rw w.1 (lower x k m g u)
            | inr w ↦ rw w.1 (D.top x k m)
          ];
          down = D.down;
          first = λ k p b e. elim (c k b) [
            | inl w ↦ let g : S d k = rw w.0 s in (D.next d k p g (sym w.1 ∙ e)).0
            | inr w ↦ D.first k p b (sym w.1 ∙ e)
          ];
          next = D.next;
        }
      where
        kb : (k : ℕ) → k ≡ h → bucket k ≡ bucket h
        kb k e = rw e

    pub unlinked-next : {before' : ℕ → ℕ} (y : ℕ) → before y ≡ suc d → Changed places before before' y (before d)
        → Descends keys places M S bucket before'
    unlinked-next {before'} y is c = record {
      member = D.member;
      within = D.within;
      top = D.top;
      down = λ a z k m s l. elim (c z (D.within z k s).0) [
        | inl w ↦
            let q : before z ≡ suc d = rw w.0 is in
            let u : a < suc d = omega (arith, D.down a z k m s l, q) in
            rw w.1 (lower a k m (D.next z k d s q).0 u)
        | inr w ↦ rw w.1 (D.down a z k m s l)
      ];
      first = D.first;
      next = λ z k p s e. elim (c z (D.within z k s).0) [
        | inl w ↦
            let q : before z ≡ suc d = rw w.0 is in
            let n = D.next z k d s q in
            let t = D.next d k p n.0 (sym w.1 ∙ e) in
            (t.0, omega (arith, t.1, n.1))
        | inr w ↦ D.next z k p s (sym w.1 ∙ e)
      ];
    }

-- A walk from a chain's start: p is the entry that comes next, `last` the one before it, `found` the last entry that passed, and `over` what led to it.
module _ (M S : ℕ → ℕ → Type 0) (bucket before : ℕ → ℕ) (Pass : ℕ → Type 0) (k : ℕ) where
  pub record Walking (found over last p : ℕ) : Type 0 where
    -- every member that passes and is not ahead was seen, and none is older than what was found
    pub seen : (x : ℕ) → M x k → Pass x → (x < p) ⊎ ((0 < found) × (found ≤ suc x))
    pub ahead : (q : ℕ) → p ≡ suc q → S q k
    pub leads : (q : ℕ) → p ≡ suc q → Leads S bucket before k last q
    pub good : (f : ℕ) → found ≡ suc f → S f k × Pass f × Leads S bucket before k over f

module _ {keys places : ℕ} {M S : ℕ → ℕ → Type 0} {bucket before : ℕ → ℕ} {Pass : ℕ → Type 0} {k : ℕ} (D : Descends keys places M S bucket before) where
  pub walk_start : k < keys → Walking M S bucket before Pass k 0 0 0 (bucket k)
  walk_start b = record {
    seen = λ x m t. inl (D.top x k m);
    ahead = λ q e. D.first k q b e;
    leads = λ q e. (λ z. e, λ y z. absurd (omega arith));
    good = λ f e. absurd (omega arith);
  }

  module _ {found over last q : ℕ} (w : Walking M S bucket before Pass k found over last (suc q)) where
    walk-leads : (r : ℕ) → before q ≡ suc r → Leads S bucket before k (suc q) r
    walk-leads r e = (λ z. absurd (omega arith), λ y z. let i : y ≡ q = omega arith in rw i (w.ahead q refl, e))

    pub walk-less : (p : ℕ) → before q ≡ p → p ≤ q
    walk-less zero e = omega arith
    walk-less (suc p) e = omega (arith, (D.next q k p (w.ahead q refl) e).1)

    -- the place does not pass
    pub walk-past : ¬ Pass q → Walking M S bucket before Pass k found over (suc q) (before q)
    walk-past n = record {
      seen = λ x m t. elim (w.seen x m t) [
        | inl l ↦ elim (equal? x q) [
          | inl e ↦ absurd (n (rw e at t))
          | inr d ↦ inl (D.down x q k m (w.ahead q refl) (omega arith))
        ]
        | inr r ↦ inr r
      ];
      ahead = λ r e. (D.next q k r (w.ahead q refl) e).0;
      leads = walk-leads;
      good = w.good;
    }

    -- it does
    pub walk-found : Pass q → Walking M S bucket before Pass k (suc q) last (suc q) (before q)
    walk-found t = record {
      seen = λ x m u. elim (w.seen x m u) [
        | inl l ↦ elim (equal? x q) [
          | inl e ↦ inr (omega arith, omega arith)
          | inr d ↦ inl (D.down x q k m (w.ahead q refl) (omega arith))
        ]
        | inr r ↦ elim (below? x q) [ inl l ↦ inl (D.down x q k m (w.ahead q refl) l) | inr g ↦ inr (omega arith, omega arith) ]
      ];
      ahead = λ r e. (D.next q k r (w.ahead q refl) e).0;
      leads = walk-leads;
      good = λ f e. let i : f ≡ q = omega arith in rw i (w.ahead q refl, t, w.leads q refl);
    }

  -- the same at an entry p that is not 0
  module _ {found over last p : ℕ} (q : ℕ) (is : p ≡ suc q) (w : Walking M S bucket before Pass k found over last p) where
    pub step_less : before q < p
    step_less = rw is (let l = walk-less (rw is at w) (before q) refl in omega arith)

    pub step_past : ¬ Pass q → Walking M S bucket before Pass k found over p (before q)
    step_past n = rw is (walk-past (rw is at w) n)

    pub step-found : Pass q → Walking M S bucket before Pass k p last p (before q)
    step-found t = rw is (walk-found (rw is at w) t)
