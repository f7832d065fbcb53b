-- The rounds of specs/SetTest.antt reach the least model of crates/aspif/specs/AnswerSets.antt, of the plain rules that the rules stand
-- for: what they mark is in it, and once as many rounds are over as there are atoms nothing is left to derive. Assumes nothing.
use mathlib.Core.Path.{◌≡◌, refl, sym, ◌∙◌, ap, subst}
use mathlib.Core.Logic.{◌⊎◌, inl, inr}
use mathlib.Core.Bool.{Bool, true, false, cond, not, or-false, true≢false}
use mathlib.Core.List.Memᴰ
use mathlib.Core.List.{List, [], ◌∷◌}
use Prim.Native.Nat.{ℕ, zero, suc, ◌≤◌, ◌<◌}
use native.Mathlib.Omega.{arith}
use borrow.Author.Tests.{ltb-true, ltb-false, leb-true, leb-false, eqb-true, eqb-false}
use lib.Dec.{T, eqb, ltb, leb}
use lib.IntN.{ℤ, pos, negsuc}
use lib.ListN.{length, get_or, set, length-set}
use lib.Seq.{get_or-set_same, get_or-set_other, set_out, set-get_or, ext_get_or}
use Rattle.words.specs.Lists.{◌∈◌, any, all, filter}
use Rattle.words.specs.Literals.{variable}
use Rattle.words.proofs.Lists.{Decides, itself, passed, answered, reworded, same_test, not-decides, any-decides, all-decides, keep←, length-keep, keep-lt, none_in}
use Rattle.weights.proofs.Reached.{reached}
use Rattle.aspif.specs.Rules.{Rule, Body, plain, weights, InputRule, bodies_of, with_body, expand}
use Rattle.aspif.specs.declared.Kind.{Kind}
use Rattle.aspif.specs.declared.Kind.TheVariants.{Normal, Choice}
use Rattle.aspif.specs.AnswerSets.{Taken, Chosen, Gives, LeastModel, derive}
use Rattle.aspif.proofs.Expansion.{Expanded, expand→, expand←}
use Rattle.marks.specs.Marks.{marked}
use Rattle.answer_set.specs.SetTest.{literal_holds, body_holds, gives, give_head, give_heads, give_rule, round, rounds}
use Rattle.answer_set.specs.Private.{Given, nothing, more}
use Rattle.answer_set.proofs.Marking.{rounds-still}

-- Marks only grow

set-grows : (m : List ℕ) (x v : ℕ) → T (marked m v) → T (marked (set m x 1) v)
set-grows m x v t = by (eqb v x) refl (ltb x (length m)) refl
  where
    by : (b : Bool) → eqb v x ≡ b → (c : Bool) → ltb x (length m) ≡ c → T (marked (set m x 1) v)
    by true e true f = rw (eqb-true v x e, get_or-set_same m x 1 0 (ltb-true x (length m) f)) tt
    by true e false f = rw (set_out m x 1 (ltb-false x (length m) f)) t
    by false e c f = rw (get_or-set_other m x v 1 0 (eqb-false v x e)) t

set_cases : (m : List ℕ) (x v : ℕ) → T (marked (set m x 1) v) → (v ≡ x) ⊎ T (marked m v)
set_cases m x v t = by (eqb v x) refl
  where
    by : (b : Bool) → eqb v x ≡ b → (v ≡ x) ⊎ T (marked m v)
    by true e = inl (eqb-true v x e)
    by false e = inr (rw (get_or-set_other m x v 1 0 (eqb-false v x e)) at t)

-- a byte is 0 or 1
abbrev pub Bits : List ℕ → Type 0
Bits m = (v : ℕ) → (get_or m v 0 ≡ 0) ⊎ (get_or m v 0 ≡ 1)

set-bits : (m : List ℕ) (x : ℕ) → Bits m → Bits (set m x 1)
set-bits m x h v = by (eqb v x) refl (ltb x (length m)) refl
  where
    by : (b : Bool) → eqb v x ≡ b → (c : Bool) → ltb x (length m) ≡ c → (get_or (set m x 1) v 0 ≡ 0) ⊎ (get_or (set m x 1) v 0 ≡ 1)
    by true e true f = inr (rw (eqb-true v x e) (get_or-set_same m x 1 0 (ltb-true x (length m) f)))
    by true e false f = rw (set_out m x 1 (ltb-false x (length m) f)) (h v)
    by false e c f = rw (get_or-set_other m x v 1 0 (eqb-false v x e)) (h v)

-- such bytes are known by what is marked
marks-equal : (a b : List ℕ) → length a ≡ length b → Bits a → Bits b → ((v : ℕ) → marked a v ≡ marked b v) → a ≡ b
marks-equal a b l p q same = ext_get_or 0 a b l (λ v h. by (get_or a v 0) (get_or b v 0) (p v) (q v) (same v))
  where
    by : (x y : ℕ) → (x ≡ 0) ⊎ (x ≡ 1) → (y ≡ 0) ⊎ (y ≡ 1) → eqb x 1 ≡ eqb y 1 → x ≡ y
    by x y (inl e) (inl f) s = e ∙ sym f
    by x y (inr e) (inr f) s = e ∙ sym f
    by x y (inl e) (inr f) s = absurd (true≢false (sym (rw (e, f) at s)))
    by x y (inr e) (inl f) s = absurd (true≢false (rw (e, f) at s))

-- marks after some steps
record Later (m n : List ℕ) : Type 0 where
  grows : (v : ℕ) → T (marked m v) → T (marked n v)
  size : length n ≡ length m
  bits : Bits m → Bits n

later_refl : (m : List ℕ) → Later m m
later_refl m = record { grows = λ v t. t; size = refl; bits = λ h. h }

later_trans : {m n o : List ℕ} → Later m n → Later n o → Later m o
later_trans p q = record { grows = λ v t. q.grows v (p.grows v t); size = q.size ∙ p.size; bits = λ h. q.bits (p.bits h) }

-- A set M is decided, and a program P

module _ (M : ℕ → Bool) (W : ℕ → Type 0) (dec : (v : ℕ) → Decides (M v) (W v)) where
  -- a literal under marks
  HoldsUnder : (ℕ → Type 0) → ℤ → Type 0
  HoldsUnder S (pos a) = S a
  HoldsUnder S (negsuc n) = ¬ W (suc n)

  -- a plain body whose positive atoms are in A and whose negated ones are outside the set, and one of those that a body stands for
  abbrev pub MetBy : (ℕ → Type 0) → List ℤ → Type 0
  MetBy A ls = ((a : ℕ) → pos a ∈ ls → A a) × ((n : ℕ) → negsuc n ∈ ls → ¬ W (suc n))

  abbrev pub SomeMet : (ℕ → Type 0) → Body → Type 0
  SomeMet A b = (ls : List ℤ) × (ls ∈ bodies_of b) × MetBy A ls

  module _ (S : ℕ → Bool) (A : ℕ → Type 0) (in-S : (v : ℕ) → Decides (S v) (A v)) where
    literal-decides : (z : ℤ) → Decides (literal_holds M S z) (HoldsUnder A z)
    unfolding HoldsUnder
    literal-decides (pos a) = in-S a
    literal-decides (negsuc n) = not-decides (dec (suc n))

    all_hold : (ls : List ℤ) → Decides (all (literal_holds M S) ls) (MetBy A ls)
    unfolding HoldsUnder
    all_hold ls = reworded (λ f. (λ a i. f (pos a) i, λ n i. f (negsuc n) i)) (λ p z i. either p z i) (all-decides literal-decides ls)
      where
        either : MetBy A ls → (z : ℤ) → z ∈ ls → HoldsUnder A z
        either p (pos a) i = p.0 a i
        either p (negsuc n) i = p.1 n i

    -- one of the plain bodies holds
    some_holds : (b : Body) → body_holds M S b ≡ any (all (literal_holds M S)) (bodies_of b)
    unfolding bodies_of
    some_holds (plain ls) = sym (or-false (all (literal_holds M S) ls))
    some_holds (weights b l) = sym (reached b l (literal_holds M S))

    -- a body, as the inductive definition has it
    pub met-decides : (b : Body) → Decides (body_holds M S b) (SomeMet A b)
    met-decides b = rw (some_holds b) (any-decides all_hold (bodies_of b))

  body-decides : (m : List ℕ) (b : Body) → Decides (body_holds M (marked m) b) (SomeMet (λ a. T (marked m a)) b)
  body-decides m b = met-decides (marked m) (λ a. T (marked m a)) (λ a. itself (marked m a)) b

  gives-decides : (k : Kind) (h : ℕ) → Decides (gives M k h) (Chosen W k h)
  gives-decides Normal h = record { to = λ t. tt; from = λ t. tt }
  gives-decides Choice h = dec h

  head-later : (k : Kind) (h : ℤ) (m : List ℕ) → Later m (give_head M k h m)
  unfolding give_head
  head-later k h m = by (gives M k (variable h))
    where
      by : (b : Bool) → Later m (cond b (set m (variable h) 1) m)
      by true = record { grows = set-grows m (variable h); size = length-set m (variable h) 1; bits = set-bits m (variable h) }
      by false = later_refl m

  heads-later : (k : Kind) (hs : List ℤ) (m : List ℕ) → Later m (give_heads M k hs m)
  heads-later k [] m = later_refl m
  heads-later k (h ∷ hs) m = later_trans (head-later k h m) (heads-later k hs (give_head M k h m))

  rule-later : (r : InputRule) (m : List ℕ) → Later m (give_rule M r m)
  unfolding give_rule
  rule-later r m = by (body_holds M (marked m) r.body)
    where
      by : (b : Bool) → Later m (cond b (give_heads M r.kind r.heads m) m)
      by true = heads-later r.kind r.heads m
      by false = later_refl m

  round-later : (rs : List InputRule) (m : List ℕ) → Later m (round M rs m)
  round-later [] m = later_refl m
  round-later (r ∷ rs) m = later_trans (rule-later r m) (round-later rs (give_rule M r m))

  rounds-later : (n : ℕ) (rs : List InputRule) (m : List ℕ) → Later m (rounds M n rs m)
  rounds-later zero rs m = later_refl m
  rounds-later (suc n) rs m = later_trans (round-later rs m) (rounds-later n rs (round M rs m))

  body-grows : {m n : List ℕ} (b : Body) → Later m n → T (body_holds M (marked m) b) → T (body_holds M (marked n) b)
  body-grows {m} {n} b p t =
      let f = (body-decides m b).to t in
      (body-decides n b).from (f.0, f.1, (λ a i. p.grows a (f.2.0 a i), f.2.1))

  -- A round marks what its rules give

  head-reach : (k : Kind) (h : ℤ) (m : List ℕ) → T (gives M k (variable h)) → variable h < length m → T (marked (give_head M k h m) (variable h))
  unfolding give_head
  head-reach k h m g l = rw ((passed (gives M k (variable h))).to g, get_or-set_same m (variable h) 1 0 l) tt

  heads-reach : (k : Kind) {z : ℤ} {hs : List ℤ} (m : List ℕ) → z ∈ hs → T (gives M k (variable z)) → variable z < length m → T (marked (give_heads M k hs m) (variable z))
  heads-reach k m (Memᴰ.head {x = h} {xs = hs} p) g l =
      rw p ((heads-later k hs (give_head M k h m)).grows (variable h) (head-reach k h m (rw p at g) (rw p at l)))
  heads-reach k m (Memᴰ.tail {x = h} {xs = hs} i) g l =
      heads-reach k (give_head M k h m) i g (rw (head-later k h m).size l)

  rule-reach : (r : InputRule) (m : List ℕ) {z : ℤ} → T (body_holds M (marked m) r.body) → z ∈ r.heads → T (gives M r.kind (variable z)) → variable z < length m
      → T (marked (give_rule M r m) (variable z))
  unfolding give_rule
  rule-reach r m b i g l = rw ((passed (body_holds M (marked m) r.body)).to b) (heads-reach r.kind m i g l)

  round-reach : {r : InputRule} {rs : List InputRule} (m : List ℕ) {z : ℤ} → r ∈ rs → T (body_holds M (marked m) r.body) → z ∈ r.heads → T (gives M r.kind (variable z))
      → variable z < length m → T (marked (round M rs m) (variable z))
  round-reach {r = r} m {z} (Memᴰ.head {x = s} {xs = rs} p) b i g l =
      (round-later rs (give_rule M s m)).grows (variable z) (rw p at (rule-reach r m b i g l))
  round-reach {r = r} m (Memᴰ.tail {x = s} {xs = rs} j) b i g l =
      round-reach (give_rule M s m) j (body-grows r.body (rule-later s m) b) i g (rw (rule-later s m).size l)

-- a head of a program with atoms up to N
pub record Head (N : ℕ) (z : ℤ) : Type 0 where
  pub is : z ≡ pos (variable z)
  pub low : 1 ≤ variable z
  pub high : variable z ≤ N

-- the numbers from n down to 1
up_to : ℕ → List ℕ
up_to zero = []
up_to (suc n) = suc n ∷ up_to n

in-up_to : (n v : ℕ) → 1 ≤ v → v ≤ n → v ∈ up_to n
unfolding up_to
in-up_to zero v l h = absurd (omega arith)
in-up_to (suc n) v l h = by (eqb v (suc n)) refl (λ k. in-up_to n v l k)
  where
    by : (b : Bool) → eqb v (suc n) ≡ b → (v ≤ n → v ∈ up_to n) → v ∈ suc n ∷ up_to n
    by true e k = Memᴰ.head (eqb-true v (suc n) e)
    by false e k = let f = eqb-false v (suc n) e in Memᴰ.tail (k (omega arith))

length-up_to : (n : ℕ) → length (up_to n) ≡ n
unfolding up_to
length-up_to zero = refl
length-up_to (suc n) = ap suc (length-up_to n)

module _ (M : ℕ → Bool) (W : ℕ → Type 0) (dec : (v : ℕ) → Decides (M v) (W v)) (P : List InputRule) (N : ℕ)
    (heads : (r : InputRule) → r ∈ P → (z : ℤ) → z ∈ r.heads → Head N z) where
  -- What is marked is in the least model

  BelowModel : List ℕ → Type 0
  BelowModel m = (v : ℕ) → T (marked m v) → LeastModel W (expand P) v

  module _ (r : InputRule) (i : r ∈ P) {ls : List ℤ} (one : ls ∈ bodies_of r.body) (taken : Taken W (with_body r ls))
      (below : (a : ℕ) → pos a ∈ ls → LeastModel W (expand P) a) where
    head-within : (h : ℤ) → h ∈ r.heads → (m : List ℕ) → BelowModel m → BelowModel (give_head M r.kind h m)
    unfolding give_head BelowModel
    head-within h j m w = by (gives M r.kind (variable h)) refl
      where
        by : (b : Bool) → gives M r.kind (variable h) ≡ b → BelowModel (cond b (set m (variable h) 1) m)
        by true e = λ v t. elim (set_cases m (variable h) v t) [
          | inl p ↦
              let chosen = (gives-decides M W dec r.kind v).to (rw p ((passed _).from e)) in
              derive (with_body r ls) (expand← i one) taken (Memᴰ.cast (ap pos p ∙ sym (heads r i h j).is) j, chosen) below
          | inr u ↦ w v u
        ]
        by false e = w

    heads-within : (hs : List ℤ) → ((z : ℤ) → z ∈ hs → z ∈ r.heads) → (m : List ℕ) → BelowModel m → BelowModel (give_heads M r.kind hs m)
    heads-within [] sub m w = w
    heads-within (h ∷ hs) sub m w =
        heads-within hs (λ z j. sub z (Memᴰ.tail j)) (give_head M r.kind h m) (head-within h (sub h (Memᴰ.head refl)) m w)

  rule-within : (r : InputRule) → r ∈ P → (m : List ℕ) → BelowModel m → BelowModel (give_rule M r m)
  unfolding give_rule BelowModel
  rule-within r i m w = by (body_holds M (marked m) r.body) refl
    where
      by : (b : Bool) → body_holds M (marked m) r.body ≡ b → BelowModel (cond b (give_heads M r.kind r.heads m) m)
      by true e =
          let f = (body-decides M W dec m r.body).to ((passed _).from e) in
          heads-within r i f.1 f.2.1 (λ a j. w a (f.2.0 a j)) r.heads (λ z j. j) m w
      by false e = w

  round-within : (rs : List InputRule) → ((r : InputRule) → r ∈ rs → r ∈ P) → (m : List ℕ) → BelowModel m → BelowModel (round M rs m)
  round-within [] sub m w = w
  round-within (r ∷ rs) sub m w =
      round-within rs (λ s j. sub s (Memᴰ.tail j)) (give_rule M r m) (rule-within r (sub r (Memᴰ.head refl)) m w)

  rounds-within : (n : ℕ) (m : List ℕ) → BelowModel m → BelowModel (rounds M n P m)
  rounds-within zero m w = w
  rounds-within (suc n) m w = rounds-within n (round M P m) (round-within P (λ r j. j) m w)

  -- Once nothing is left to give, a round changes nothing

  Closed : List ℕ → Type 0
  Closed m = (r : InputRule) → r ∈ P → T (body_holds M (marked m) r.body) → (z : ℤ) → z ∈ r.heads → T (gives M r.kind (variable z)) → T (marked m (variable z))

  module _ (m : List ℕ) (c : Closed m) where
    heads-still : (r : InputRule) → r ∈ P → T (body_holds M (marked m) r.body) → (hs : List ℤ) → ((z : ℤ) → z ∈ hs → z ∈ r.heads) → give_heads M r.kind hs m ≡ m
    unfolding give_head Closed
    heads-still r i b [] sub = refl
    heads-still r i b (h ∷ hs) sub = rw head-still (heads-still r i b hs (λ z j. sub z (Memᴰ.tail j)))
      where
        head-still : give_head M r.kind h m ≡ m
        head-still = by (gives M r.kind (variable h)) refl
          where
            by : (t : Bool) → gives M r.kind (variable h) ≡ t → cond t (set m (variable h) 1) m ≡ m
            by true e =
                let k = c r i b h (sub h (Memᴰ.head refl)) ((passed _).from e) in
                rw (eqb-true (get_or m (variable h) 0) 1 ((passed _).to k)) at (set-get_or m (variable h) 0)
            by false e = refl

    rule-still : (r : InputRule) → r ∈ P → give_rule M r m ≡ m
    unfolding give_rule
    rule-still r i = by (body_holds M (marked m) r.body) refl
      where
        by : (b : Bool) → body_holds M (marked m) r.body ≡ b → cond b (give_heads M r.kind r.heads m) m ≡ m
        by true e = heads-still r i ((passed _).from e) r.heads (λ z j. j)
        by false e = refl

    round-still : (rs : List InputRule) → ((r : InputRule) → r ∈ rs → r ∈ P) → round M rs m ≡ m
    round-still [] sub = refl
    round-still (r ∷ rs) sub = rw (rule-still r (sub r (Memᴰ.head refl))) (round-still rs (λ s j. sub s (Memᴰ.tail j)))

  -- A round that marks nothing new leaves nothing to give

  lacks : List ℕ → ℕ → Bool
  lacks m v = not (marked m v)

  -- how many atoms are still to be marked
  missing : List ℕ → ℕ
  missing m = length (filter (lacks m) (up_to N))

  module _ (m : List ℕ) (l : N < length m) where
    fewer : {z : ℤ} → Head N z → T (not (marked m (variable z))) → T (marked (round M P m) (variable z)) → missing (round M P m) < missing m
    unfolding lacks missing
    fewer {z} h t u =
        keep-lt (lacks (round M P m)) (lacks m) sub (in-up_to N (variable z) h.low h.high) ((not-decides (not-decides (itself (marked (round M P m) (variable z))))).from (λ f. f u)) t
      where
        sub : (x : ℕ) → T (not (marked (round M P m) x)) → T (not (marked m x))
        sub x v = (not-decides (itself (marked m x))).from (λ k. (not-decides (itself (marked (round M P m) x))).to v ((round-later M W dec P m).grows x k))

    no-fewer : missing m ≤ missing (round M P m) → Closed m
    unfolding Closed
    no-fewer k r i b z j g = elim (answered (marked m (variable z))) [
      | inl t ↦ t
      | inr t ↦
          let h = heads r i z j in
          let u = round-reach M W dec m i b j g (omega (arith, h.high)) in
          absurd (omega (arith, fewer h t u))
    ]

  closed : (n : ℕ) (m : List ℕ) → N < length m → missing m ≤ n → Closed (rounds M n P m)
  unfolding Closed lacks missing
  closed zero m l h = λ r i b z j g. elim (answered (marked m (variable z))) [
    | inl t ↦ t
    | inr t ↦ let k = heads r i z j in absurd (none_in h (keep← (lacks m) (in-up_to N (variable z) k.low k.high) t))
  ]
  closed (suc n) m l h = by (λ k. closed n (round M P m) (rw (round-later M W dec P m).size l) k) (leb (missing (round M P m)) n) refl
    where
      by : (missing (round M P m) ≤ n → Closed (rounds M n P (round M P m))) → (b : Bool) → leb (missing (round M P m)) n ≡ b → Closed (rounds M n P (round M P m))
      by k true e = k (leb-true _ n e)
      by k false e =
          let q = leb-false (missing (round M P m)) n e in
          let c : Closed m = no-fewer m l (omega arith) in
          let s = round-still m c P (λ r j. j) in
          rw (s, rounds-still M n P m s) c

  least-in : (m : List ℕ) → Closed m → {v : ℕ} → LeastModel W (expand P) v → T (marked m v)
  unfolding Closed
  least-in m c (derive {h = h} r i taken g below) = from (expand→ P i) taken g (λ a k. least-in m c (below a k))
    where
      from : {r : Rule} → Expanded P r → Taken W r → Gives W r h → ((a : ℕ) → pos a ∈ r.body → T (marked m a)) → T (marked m h)
      from x taken g below =
          let e = sym x.is in
          let u = subst (λ s. Gives W s h) e g in
          let b = subst (λ s. (a : ℕ) → pos a ∈ s.body → T (marked m a)) e below in
          let v = (body-decides M W dec m x.rule.body).from (x.body, x.one, (b, subst (Taken W) e taken)) in
          c x.rule x.among v (pos h) u.0 ((gives-decides M W dec x.rule.kind h).from u.1)

  -- from marks of the least model, N rounds mark the whole of it
  rounds-complete : (m : List ℕ) → N < length m → BelowModel m → (v : ℕ) → Decides (marked (rounds M N P m) v) (LeastModel W (expand P) v)
  unfolding BelowModel lacks missing
  rounds-complete m l w v =
      record {
        to = rounds-within N m w v;
        from = least-in (rounds M N P m) (closed N m l (omega (arith, length-keep (lacks m) (up_to N), length-up_to N)));
      }

  -- and so from no marks
  pub rounds-decide : (m : List ℕ) → N < length m → ((v : ℕ) → ¬ T (marked m v)) → (v : ℕ) → Decides (marked (rounds M N P m) v) (LeastModel W (expand P) v)
  unfolding BelowModel
  rounds-decide m l none = rounds-complete m l (λ u t. absurd (none u t))

  -- and each byte is 0 or 1, with as many bytes as before
  pub rounds-bits : (n : ℕ) (m : List ℕ) → Bits m → Bits (rounds M n P m)
  rounds-bits n m h = (rounds-later M W dec n P m).bits h

  pub rounds-length : (n : ℕ) (m : List ℕ) → length (rounds M n P m) ≡ length m
  rounds-length n m = (rounds-later M W dec n P m).size

  -- Rules given in any order

  given-later : {m n : List ℕ} → Given M P m n → Later m n
  given-later {m} nothing = later_refl m
  given-later (more {n} r i g) = later_trans (given-later g) (rule-later M W dec r n)

  given-within : {m n : List ℕ} → Given M P m n → BelowModel m → BelowModel n
  given-within nothing w = w
  given-within (more {n} r i g) w = rule-within r i n (given-within g w)

  -- the rounds come to the same marks from there
  pub rounds-given : {m n : List ℕ} → N < length m → Bits m → ((v : ℕ) → ¬ T (marked m v)) → Given M P m n → rounds M N P n ≡ rounds M N P m
  unfolding BelowModel
  rounds-given {m} {n} l b none g =
      let later = given-later g in
      let below : BelowModel m = λ u t. absurd (none u t) in
      marks-equal (rounds M N P n) (rounds M N P m) (rounds-length N n ∙ later.size ∙ sym (rounds-length N m)) (rounds-bits N n (later.bits b)) (rounds-bits N m b) (λ v.
      same_test (rounds-complete n (rw later.size l) (given-within g below) v) (rounds-complete m l below v) (λ x. x) (λ x. x))
