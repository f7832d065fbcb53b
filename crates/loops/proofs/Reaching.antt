-- The search over the edges between places: what it finds is what it can reach, and all of it.
-- Assumes nothing.
use mathlib.Core.Path.{◌≡◌, refl, sym, ◌∙◌, ap}
use mathlib.Core.Logic.{◌⊎◌, inl, inr}
use mathlib.Core.Bool.{Bool, true, false, cond, not, ◌&&◌, ◌||◌, true≢false}
use mathlib.Core.List.Memᴰ
use mathlib.Core.List.{List, [], ◌∷◌}
use Prim.Native.Nat.{ℕ, zero, suc, ◌≤◌, ◌<◌}
use native.Mathlib.Omega.{arith}
use lib.Dec.{T, eqb}
use lib.IntN.{ℤ, pos}
use Rattle.std.proofs.Common.{None}
use lib.ListN.{length, get_or, set, replicate, length-set, length-replicate}
use lib.Seq.{get_or-set_same, get_or-set_other}
use Rattle.words.specs.Limits.{most_numbers}
use Rattle.words.specs.Lists.{◌∈◌, filter}
use Rattle.words.proofs.Lists.{Decides, passed, itself, or-decides, same_test, keep-lt}
use Rattle.words.proofs.Places.{equal?, in-at, place-of}
use Rattle.aspif.specs.Rules.{InputRule, expand}
use Rattle.marks.specs.Marks.{marked}
use Rattle.derivation.specs.Loops.{is_edge, reaches_all, is_loop}
use Rattle.derivation.proofs.Loops as Ways
use Rattle.derivation.proofs.Loops.{reaches_all_lem}
use Rattle.loops.specs.Edges.{Members, Placed, Edges}
use Rattle.loops.specs.Searches.{steps, Noted, Spread, Open, Way, first, on, Searched, Full}
use Rattle.marks.proofs.Sets.{marked-set, none-marked}
use Rattle.loops.proofs.Expanded.{edge-is}

-- Marks

pub noted : (b : ℕ) (t : Bool) (m after : List ℕ) → length m ≡ most_numbers → after ≡ cond t (set m b 1) m → Noted b t m after
noted b true m after l q = record {
  long = ap length q ∙ length-set m b 1 ∙ l;
  has = λ c h. rw (q, marked-set m b c (omega arith)) (swap (eqb c b) (marked m c));
}
  where
    swap : (x y : Bool) → (x || y) ≡ (y || (x && true))
    swap true true = refl
    swap true false = refl
    swap false true = refl
    swap false false = refl
noted b false m after l q = record { long = ap length q ∙ l; has = λ c h. rw q (none (eqb c b) (marked m c)) }
  where
    none : (x y : Bool) → y ≡ (y || (x && false))
    none true true = refl
    none true false = refl
    none false true = refl
    none false false = refl

-- the places below b have been looked at
pub record Spreading (f : ℕ → Bool) (n b : ℕ) (before m : List ℕ) : Type 0 where
  pub long : length m ≡ most_numbers
  pub past : (c : ℕ) → c < b → marked m c ≡ (marked before c || f c)
  pub left : (c : ℕ) → b ≤ c → c < n → marked m c ≡ marked before c

-- The search

pub record Reaching (f : ℕ → ℕ → Bool) (n : ℕ) (found done : List ℕ) : Type 0 where
  pub long : length found ≡ most_numbers
  pub wide : length done ≡ most_numbers
  pub sound : (b : ℕ) → b < n → T (marked found b) → Way f n b
  pub begun : (b : ℕ) → b < n → T (f 0 b) → T (marked found b)
  pub closed : (a b : ℕ) → b < n → T (marked done a) → T (f a b) → T (marked found b)

way-low : {f : ℕ → ℕ → Bool} {n b : ℕ} → Way f n b → b < n
way-low (first h t) = h
way-low (on w h t) = h

module _ (f : ℕ → ℕ → Bool) (n : ℕ) where
  spread-decides : {g : ℕ → Bool} {before after : List ℕ} → Spread g n before after → (b : ℕ) → b < n
      → Decides (marked after b) (T (marked before b) ⊎ T (g b))
  spread-decides {g} {before} s b h = rw (s.has b h) (or-decides (itself (marked before b)) (itself (g b)))

  unmarked : (k b : ℕ) → ¬ T (marked (replicate k 0) b)
  unmarked k b t = rw (none-marked k b) at t

  pub reaching-start : {found : List ℕ} → Spread (f 0) n (replicate most_numbers 0) found
      → Reaching f n found (replicate most_numbers 0)
  reaching-start s = record {
    long = s.long;
    wide = length-replicate {A = ℕ} most_numbers 0;
    sound = λ b h t. elim ((spread-decides s b h).to t) [ inl u ↦ absurd (unmarked most_numbers b u) | inr u ↦ first h u ];
    begun = λ b h t. (spread-decides s b h).from (inr t);
    closed = λ a b h t u. absurd (unmarked most_numbers a t);
  }

  pub reaching-on : {found done after : List ℕ} (a : ℕ) → a < n → n ≤ most_numbers → Reaching f n found done → T (marked found a)
      → Spread (f a) n found after
      → Reaching f n after (set done a 1)
  reaching-on {found} {done} {after} a h k r t s = record {
    long = s.long;
    wide = length-set done a 1 ∙ r.wide;
    sound = λ b l u. elim ((spread-decides s b l).to u) [ inl v ↦ r.sound b l v | inr v ↦ on (r.sound a h t) l v ];
    begun = λ b l u. (spread-decides s b l).from (inl (r.begun b l u));
    closed = λ c b l u v. by c b l (equal? c a) u v;
  }
    where
      by : (c b : ℕ) → b < n → (c ≡ a) ⊎ (¬ (c ≡ a)) → T (marked (set done a 1) c) → T (f c b) → T (marked after b)
      by c b l (inl e) u v = (spread-decides s b l).from (inr (rw e at v))
      by c b l (inr e) u v = (spread-decides s b l).from (inl (r.closed c b l (old u) v))
        where
          old : T (marked (set done a 1) c) → T (marked done c)
          old u = rw (get_or-set_other done a c 1 0 e) at u

  pub reaching-end : {found done : List ℕ} → Open found done n None → Reaching f n found done → Searched f n found
  reaching-end {found} {done} o r = record { to = r.sound; from = λ b w. all w }
    where
      all : {b : ℕ} → Way f n b → T (marked found b)
      all (first l t) = r.begun _ l t
      all (on {a = a} w l t) = r.closed a _ l ((passed _).from (o a (way-low w) ((passed _).to (all w)))) t

-- how many places are not done
abbrev below : ℕ → List ℕ
below zero = []
below (suc n) = n ∷ below n

below_in : (n v : ℕ) → v < n → v ∈ below n
below_in zero v h = absurd (omega arith)
below_in (suc n) v h = elim (equal? v n) [ inl e ↦ Memᴰ.head e | inr e ↦ Memᴰ.tail (below_in n v (omega (arith, e))) ]

unfoldable pub undone : ℕ → List ℕ → ℕ
undone n done = length (filter (λ v. not (marked done v)) (below n))

pub undone-less : (n a : ℕ) (done : List ℕ) → a < n → n ≤ most_numbers → length done ≡ most_numbers → marked done a ≡ false
    → undone n (set done a 1) < undone n done
unfolding undone
undone-less n a done h k l e =
    keep-lt (λ v. not (marked (set done a 1) v)) (λ v. not (marked done v)) sub (below_in n a h) here (rw e tt)
  where
    sub : (v : ℕ) → T (not (marked (set done a 1) v)) → T (not (marked done v))
    sub v t = elim (equal? v a) [ inl q ↦ rw (q, e) tt | inr q ↦ rw (get_or-set_other done a v 1 0 q) at t ]

    here : T (not (not (marked (set done a 1) a)))
    here = rw (get_or-set_same done a 1 0 (omega arith)) tt

-- Places and atoms

module _ (U : List ℤ) (e : ℕ → ℕ → Bool) (f : ℤ → ℤ → Bool)
    (is : (i j : ℕ) → i < length U → j < length U → e i j ≡ f (get_or U i (pos 0)) (get_or U j (pos 0))) where
  abbrev head : ℤ
  head = get_or U 0 (pos 0)

  way-to : {b : ℕ} → Way e (length U) b → Ways.Way f U head (get_or U b (pos 0))
  way-to (first {b = b} h t) = Ways.first (in-at (pos 0) U b h) (rw (is 0 b (omega arith) h) at t)
  way-to (on {a = a} {b = b} w h t) = Ways.on (way-to w) (in-at (pos 0) U b h) (rw (is a b (way-low w) h) at t)

  within : {x : ℤ} → Ways.Way f U head x → x ∈ U
  within (Ways.first m t) = m
  within (Ways.on w m t) = m

  way-from : {x : ℤ} → Ways.Way f U head x → (j : ℕ) → j < length U → get_or U j (pos 0) ≡ x → Way e (length U) j
  way-from (Ways.first m t) j h q = first h (rw (is 0 j (omega arith) h, q) t)
  way-from (Ways.on w m t) j h q =
      let p = place-of (pos 0) (within w) in
      on (way-from w p.0 p.1 p.2) h (rw (is p.0 j p.1 h, p.2, q) t)

  pub all-is : (m : List ℕ) (r : Bool) → Searched e (length U) m → Full (length U) m r → r ≡ reaches_all f U head
  all-is m r s full = same_test (passed r) (reaches_all_lem f U head) to from
    where
      to : r ≡ true → (x : ℤ) → x ∈ U → Ways.Way f U head x
      to q x i =
          let p = place-of (pos 0) i in rw p.2 at (way-to (s.to p.0 p.1 ((passed _).from (full.to q p.0 p.1))))

      from : ((x : ℤ) → x ∈ U → Ways.Way f U head x) → r ≡ true
      from g = full.from (λ b h. (passed _).to (s.from b (way-from (g (get_or U b (pos 0)) (in-at (pos 0) U b h)) b h refl)))

module _ (ws : List InputRule) {places e : List ℕ} where
  ahead-is : (h : ℤ) (hs : List ℤ) → Members (h ∷ hs) → Placed places (h ∷ hs) → Edges places ws e → (m : List ℕ) (r : Bool)
      → Searched (steps e false) (length (h ∷ hs)) m → Full (length (h ∷ hs)) m r → r ≡ reaches_all (is_edge (expand ws)) (h ∷ hs) h
  ahead-is h hs u p E = all-is (h ∷ hs) (steps e false) (is_edge (expand ws)) (λ i j g k. edge-is p u.few E i j g k)

  behind-is : (h : ℤ) (hs : List ℤ) → Members (h ∷ hs) → Placed places (h ∷ hs) → Edges places ws e → (m : List ℕ) (r : Bool)
      → Searched (steps e true) (length (h ∷ hs)) m → Full (length (h ∷ hs)) m r
      → r ≡ reaches_all (λ a b. is_edge (expand ws) b a) (h ∷ hs) h
  behind-is h hs u p E = all-is (h ∷ hs) (steps e true) (λ a b. is_edge (expand ws) b a) (λ i j g k. edge-is p u.few E j i k g)

  -- the first atom does not reach all
  pub no_loop : (U : List ℤ) → Members U → Placed places U → Edges places ws e → (m : List ℕ) (r : Bool)
      → Searched (steps e false) (length U) m → Full (length U) m r → r ≡ false → false ≡ is_loop (expand ws) U
  unfolding is_loop
  no_loop [] u p E m r s full q = absurd (true≢false (sym (full.from (λ b h. absurd (omega arith))) ∙ q))
  no_loop (h ∷ hs) u p E m r s full q = rw (sym (ahead-is h hs u p E m r s full) ∙ q)

  -- it does, and whether it is reached by all
  pub loop-if : (U : List ℤ) → Members U → Placed places U → Edges places ws e → (m m' : List ℕ) (r r' : Bool)
      → Searched (steps e false) (length U) m → Full (length U) m r → r ≡ true
      → Searched (steps e true) (length U) m' → Full (length U) m' r' → r' ≡ is_loop (expand ws) U
  unfolding is_loop
  loop-if [] u p E m m' r r' s full q s' full' = full'.from (λ b h. absurd (omega arith))
  loop-if (h ∷ hs) u p E m m' r r' s full q s' full' =
      rw (sym (ahead-is h hs u p E m r s full) ∙ q) (behind-is h hs u p E m' r' s' full')

-- what is found and not open is done
pub not-open : (a b : Bool) → (a && not b) ≡ false → a ≡ true → b ≡ true
not-open true true e q = refl
not-open true false e q = absurd (true≢false e)
not-open false b e q = absurd (true≢false (sym q))
