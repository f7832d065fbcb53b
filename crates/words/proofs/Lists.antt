-- What a test over a list says. A test is a Boolean; `Decides b A` ties it to the statement that it answers, and the laws below
-- read a test made of smaller ones part by part. The words are those of specs/Lists.antt. Assumes nothing.
use mathlib.Core.Path.{◌≡◌, refl, sym, ap, subst, ◌∙◌}
use mathlib.Core.Logic.{◌⊎◌, inl, inr}
use mathlib.Core.Bool.{Bool, true, false, not, cond, ◌&&◌, ◌||◌, and-eq-true_iff, true≢false}
use mathlib.Core.List.Memᴰ
use mathlib.Core.List.{List, [], ◌∷◌, ◌++◌, map, append_assoc}
use Prim.Native.Nat.{ℕ, suc, ◌≤◌, ◌<◌, ◌-◌}
use native.Mathlib.Omega.{arith}
use lib.Dec.{T, T_not, not_T, eqb, leb, eqb→eq, eqb_refl, leb→le, le→leb}
use lib.ListN.{length}
use Rattle.words.specs.Lists.{◌∈◌, any, all, filter, drop_first, concat}

-- what an equation of two different constructors comes to
pub zero_one : ◌≡◌ {A = ℕ} 0 1 → ⊥
zero_one e = omega arith

-- Tests

-- the test b answers whether A holds
pub record Decides (b : Bool) (A : Type 0) : Type 0 where
  pub to : T b → A
  pub from : A → T b

pub itself : (b : Bool) → Decides b (T b)
itself b = record { to = λ t. t; from = λ t. t }

-- a test that is passed, as an equation and as a type
pub passed : (b : Bool) → Decides b (b ≡ true)
passed true = record { to = λ t. refl; from = λ p. tt }
passed false = record { to = λ t. absurd t; from = λ p. subst T (sym p) tt }

pub failed : (b : Bool) → T (not b) → b ≡ false
failed true t = absurd t
failed false t = refl

-- a test whose Boolean is known, and a Boolean whose test is known
pub if-true : {b : Bool} {A : Type 0} → Decides b A → b ≡ true → A
if-true {b} i e = i.to ((passed b).from e)

pub is_true : {b : Bool} {A : Type 0} → Decides b A → A → b ≡ true
is_true {b} i x = (passed b).to (i.from x)

-- the parts of a conjunction, and a conjunction from its parts
pub and_left : (a b : Bool) → (a && b) ≡ true → a ≡ true
and_left a b e = ((and-eq-true_iff a b).0 e).0

pub and_right : (a b : Bool) → (a && b) ≡ true → b ≡ true
and_right a b e = ((and-eq-true_iff a b).0 e).1

pub and_both : {a b : Bool} → a ≡ true → b ≡ true → (a && b) ≡ true
and_both p q = rw (p, q) refl

-- the parts of a disjunction that is not passed
pub or-false-left : (a b : Bool) → (a || b) ≡ false → a ≡ false
or-false-left true b e = e
or-false-left false b e = refl

pub or-false-right : (a b : Bool) → (a || b) ≡ false → b ≡ false
or-false-right true b e = absurd (true≢false e)
or-false-right false b e = e

-- a disjunction's parts in another order
pub or_swap : (a b c : Bool) → (a || (b || c)) ≡ (b || (a || c))
or_swap true true c = refl
or_swap true false c = refl
or_swap false b c = refl

-- what holds of both answers to a test
pub by-test : {A : Type 0} (P : A → Type 0) (t : Bool) {x y : A} → (t ≡ true → P x) → (t ≡ false → P y) → P (cond t x y)
by-test P true f g = f refl
by-test P false f g = g refl

-- two tests of the same thing
pub same_test : {b c : Bool} {A B : Type 0} → Decides b A → Decides c B → (A → B) → (B → A) → b ≡ c
same_test {b = true} {c = true} i j f g = refl
same_test {b = true} {c = false} i j f g = absurd (j.from (f (i.to tt)))
same_test {b = false} {c = true} i j f g = absurd (i.from (g (j.to tt)))
same_test {b = false} {c = false} i j f g = refl

-- either the test is passed or its negation is
unfoldable pub answered : (b : Bool) → T b ⊎ T (not b)
answered true = inl tt
answered false = inr tt

-- the same test of a statement put in other words
pub reworded : {b : Bool} {A B : Type 0} → (A → B) → (B → A) → Decides b A → Decides b B
reworded f g i = record { to = λ t. f (i.to t); from = λ y. i.from (g y) }

pub and-decides : {b c : Bool} {A B : Type 0} → Decides b A → Decides c B → Decides (b && c) (A × B)
and-decides {b = true} i j = record { to = λ t. (i.to tt, j.to t); from = λ p. j.from p.1 }
and-decides {b = false} i j = record { to = λ t. absurd t; from = λ p. i.from p.0 }

pub or-decides : {b c : Bool} {A B : Type 0} → Decides b A → Decides c B → Decides (b || c) (A ⊎ B)
or-decides {b = true} i j = record { to = λ t. inl (i.to tt); from = λ s. tt }
or-decides {b = false} i j = record { to = λ t. inr (j.to t); from = elim [ inl x ↦ absurd (i.from x) | inr y ↦ j.from y ] }

pub not-decides : {b : Bool} {A : Type 0} → Decides b A → Decides (not b) (¬ A)
not-decides {b} i = record { to = λ t x. T_not b t (i.from x); from = λ f. not_T b (λ t. f (i.to t)) }

pub if-decides : {b c : Bool} {A B : Type 0} → Decides b A → Decides c B → Decides (not b || c) (A → B)
if-decides {b = true} i j = record { to = λ t x. j.to t; from = λ f. j.from (f (i.to tt)) }
if-decides {b = false} i j = record { to = λ t x. absurd (i.from x); from = λ f. tt }

pub eqb-decides : (m n : ℕ) → Decides (eqb m n) (m ≡ n)
eqb-decides m n = record { to = eqb→eq m n; from = λ p. rw p (eqb_refl n) }

pub leb-decides : (m n : ℕ) → Decides (leb m n) (m ≤ n)
leb-decides m n = record { to = leb→le m n; from = le→leb m n }

-- Tests of every element

-- what holds of the first and of the others holds of each
unfoldable pub each-cons : {A : Type 0} {P : A → Type 0} {x : A} {l : List A} → P x → ((y : A) → y ∈ l → P y) → (y : A) → y ∈ x ∷ l → P y
each-cons h k y (Memᴰ.head p) = rw p h
each-cons h k y (Memᴰ.tail m) = k y m

module _ {A : Type 0} {f : A → Bool} {F : A → Type 0} (i : (x : A) → Decides (f x) (F x)) where
  pub any-decides : (l : List A) → Decides (any f l) ((x : A) × (x ∈ l) × F x)
  any-decides [] = record { to = λ t. absurd t; from = λ r. elim r.1 [ ] }
  any-decides (y ∷ l) = reworded here there (or-decides (i y) (any-decides l))
    where
      here : F y ⊎ ((x : A) × (x ∈ l) × F x) → (x : A) × (x ∈ y ∷ l) × F x
      here (inl u) = (y, Memᴰ.head refl, u)
      here (inr r) = (r.0, Memᴰ.tail r.1, r.2)

      place : {x : A} → x ∈ y ∷ l → F x → F y ⊎ ((x : A) × (x ∈ l) × F x)
      place (Memᴰ.head p) u = inl (rw p at u)
      place {x} (Memᴰ.tail m) u = inr (x, m, u)

      there : (x : A) × (x ∈ y ∷ l) × F x → F y ⊎ ((x : A) × (x ∈ l) × F x)
      there r = place r.1 r.2

  pub all-decides : (l : List A) → Decides (all f l) ((x : A) → x ∈ l → F x)
  all-decides [] = record { to = λ t x m. elim m [ ]; from = λ g. tt }
  all-decides (y ∷ l) =
      reworded (λ p. each-cons p.0 p.1) (λ g. (g y (Memᴰ.head refl), λ x m. g x (Memᴰ.tail m))) (and-decides (i y) (all-decides l))

-- What is kept

module _ {A : Type 0} (f : A → Bool) where
  pub keep→ : {x : A} (l : List A) → x ∈ filter f l → (x ∈ l) × T (f x)
  keep→ [] m = elim m [ ]
  keep→ {x} (y ∷ l) m = go (λ n. keep→ l n) (f y) refl m
    where
      later : (x ∈ l) × T (f x) → (x ∈ y ∷ l) × T (f x)
      later r = (Memᴰ.tail r.0, r.1)

      go : (x ∈ filter f l → (x ∈ l) × T (f x)) → (b : Bool) → f y ≡ b → x ∈ cond b (y ∷ filter f l) (filter f l) → (x ∈ y ∷ l) × T (f x)
      go below true p (Memᴰ.head q) = (Memᴰ.head q, rw (q, p) tt)
      go below true p (Memᴰ.tail n) = later (below n)
      go below false p n = later (below n)

  pub keep← : {x : A} {l : List A} → x ∈ l → T (f x) → x ∈ filter f l
  keep← {x} (Memᴰ.head {x = y} {xs = l} p) t = go (f y) (rw p at t)
    where
      go : (b : Bool) → T b → x ∈ cond b (y ∷ filter f l) (filter f l)
      go true t = Memᴰ.head p
      go false t = absurd t
  keep← {x} (Memᴰ.tail {x = y} {xs = l} m) t = go (f y) (keep← m t)
    where
      go : (b : Bool) → x ∈ filter f l → x ∈ cond b (y ∷ filter f l) (filter f l)
      go true n = Memᴰ.tail n
      go false n = n

  pub length-keep : (l : List A) → length (filter f l) ≤ length l
  length-keep [] = omega arith
  length-keep (x ∷ l) = go (f x) (length-keep l)
    where
      go : (b : Bool) → length (filter f l) ≤ length l → length (cond b (x ∷ filter f l) (filter f l)) ≤ suc (length l)
      go true h = omega arith
      go false h = omega arith

  pub drop_first→ : {x : A} (l : List A) → x ∈ drop_first f l → x ∈ l
  drop_first→ [] m = m
  drop_first→ {x} (y ∷ l) m = go (λ n. drop_first→ l n) (f y) m
    where
      go : (x ∈ drop_first f l → x ∈ l) → (b : Bool) → x ∈ cond b l (y ∷ drop_first f l) → x ∈ y ∷ l
      go below true n = Memᴰ.tail n
      go below false (Memᴰ.head p) = Memᴰ.head p
      go below false (Memᴰ.tail n) = Memᴰ.tail (below n)

-- a test that passes less keeps less
module _ {A : Type 0} (f g : A → Bool) (sub : (x : A) → T (f x) → T (g x)) where
  pub keep-le : (l : List A) → length (filter f l) ≤ length (filter g l)
  keep-le [] = omega arith
  keep-le (x ∷ l) = go (f x) (g x) (sub x) (keep-le l)
    where
      go : (a b : Bool) → (T a → T b) → length (filter f l) ≤ length (filter g l) → length (cond a (x ∷ filter f l) (filter f l)) ≤ length (cond b (x ∷ filter g l) (filter g l))
      go true true s h = omega arith
      go true false s h = absurd (s tt)
      go false true s h = omega arith
      go false false s h = h

  pub keep-lt : {y : A} {l : List A} → y ∈ l → T (not (f y)) → T (g y) → length (filter f l) < length (filter g l)
  keep-lt (Memᴰ.head {x = x} {xs = l} p) u v = go (f x) (g x) (rw p at u) (rw p at v) (keep-le l)
    where
      go : (a b : Bool) → T (not a) → T b → length (filter f l) ≤ length (filter g l) → length (cond a (x ∷ filter f l) (filter f l)) < length (cond b (x ∷ filter g l) (filter g l))
      go true b u v h = absurd u
      go false true u v h = omega arith
      go false false u v h = absurd v
  keep-lt (Memᴰ.tail {x = x} {xs = l} m) u v = go (f x) (g x) (sub x) (keep-lt m u v)
    where
      go : (a b : Bool) → (T a → T b) → length (filter f l) < length (filter g l) → length (cond a (x ∷ filter f l) (filter f l)) < length (cond b (x ∷ filter g l) (filter g l))
      go true true s h = omega arith
      go true false s h = absurd (s tt)
      go false true s h = omega arith
      go false false s h = h

-- Lists one after another

module _ {A : Type 0} where
  pub join_all← : {x : A} {l : List A} {ls : List (List A)} → l ∈ ls → x ∈ l → x ∈ concat ls
  join_all← (Memᴰ.head {xs = ls} p) m = Memᴰ.append_left (concat ls) (rw p at m)
  join_all← (Memᴰ.tail {x = k} n) m = Memᴰ.append_right k (join_all← n m)

  pub join_all→ : {x : A} (ls : List (List A)) → x ∈ concat ls → (l : List A) × (l ∈ ls) × (x ∈ l)
  join_all→ [] m = elim m [ ]
  join_all→ {x} (k ∷ ls) m = go (λ n. join_all→ ls n) (Memᴰ.append_cases k m)
    where
      go : (x ∈ concat ls → (l : List A) × (l ∈ ls) × (x ∈ l)) → (x ∈ k) ⊎ (x ∈ concat ls) → (l : List A) × (l ∈ k ∷ ls) × (x ∈ l)
      go below (inl n) = (k, Memᴰ.head refl, n)
      go below (inr n) = let r = below n in (r.0, Memᴰ.tail r.1, r.2)

  -- nothing stands in a list without length
  pub none_in : {x : A} {l : List A} → length l ≤ 0 → ¬ (x ∈ l)
  none_in h (Memᴰ.head {xs = l} p) = omega arith
  none_in h (Memᴰ.tail {xs = l} m) = omega arith

-- Counting down

-- a number above 0 is one more than the number before it, which opens a definition by `zero` and `suc` at a loop's number
pub one_less : (n : ℕ) → 0 < n → n ≡ suc (n - 1)
one_less n h = omega arith

-- a loop's number that is not above 0 is 0
pub nothing_left : (n : ℕ) → n ≤ 0 → n ≡ 0
nothing_left n h = omega arith

-- Lists one after another

pub concat-append : {A B : Type 0} (f : A → List B) (xs ys : List A) → concat (map f (xs ++ ys)) ≡ concat (map f xs) ++ concat (map f ys)
concat-append f [] ys = refl
concat-append {B = B} f (x ∷ xs) ys =
    ap (λ (l : List B). f x ++ l) (concat-append f xs ys) ∙ sym (append_assoc (f x) (concat (map f xs)) (concat (map f ys)))
