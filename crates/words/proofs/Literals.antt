-- What the tests on literals say, and that a list put in order has the same elements. The words are those of specs/Literals.antt.
-- Assumes nothing.
use mathlib.Core.Path.{◌≡◌, refl, sym, ap, ap₂}
use mathlib.Core.Logic.{◌⊎◌, inl, inr, ◌≢◌}
use mathlib.Core.Bool.{Bool, true, false, cond}
use mathlib.Core.List.Memᴰ
use mathlib.Core.List.{List, [], ◌∷◌, head-eq_of_cons-eq, tail-eq_of_cons-eq, nil≢cons}
use Prim.Native.Nat.{zero, suc, ◌≤◌}
use native.Mathlib.Omega.{arith}
use lib.Dec.{T, ltb, eqb→eq, eqb_refl}
use lib.IntN.{ℤ, pos, negsuc, neg_ℤ-neg_ℤ}
use lib.Pointwise.{pointwise}
use lib.Signed.{lt_z}
use Rattle.std.specs.Ordering.{int_eq}
use Rattle.std.specs.Cmp.Rules.{signed_items}
use borrow.Author.Tests.{ltb-true}
use Rattle.words.specs.Lists.{◌∈◌}
use Rattle.words.specs.Literals.{variable, complement, same, same_list, has, insert, insert_all, ascending}
use Rattle.words.proofs.Lists.{Decides, reworded, and-decides, any-decides, passed, same_test}

-- Tests

same→ : (x y : ℤ) → T (same x y) → x ≡ y
same→ (pos m) (pos n) t = ap pos (eqb→eq m n t)
same→ (pos m) (negsuc n) t = absurd t
same→ (negsuc m) (pos n) t = absurd t
same→ (negsuc m) (negsuc n) t = ap negsuc (eqb→eq m n t)

same_self : (x : ℤ) → T (same x x)
same_self (pos n) = eqb_refl n
same_self (negsuc n) = eqb_refl n

pub same-decides : (x y : ℤ) → Decides (same x y) (x ≡ y)
same-decides x y = record { to = same→ x y; from = λ p. rw p (same_self y) }

pub same_list-decides : (k l : List ℤ) → Decides (same_list k l) (k ≡ l)
same_list-decides [] [] = record { to = λ t. refl; from = λ p. tt }
same_list-decides [] (y ∷ l) = record { to = λ t. absurd t; from = λ p. nil≢cons p }
same_list-decides (x ∷ k) [] = record { to = λ t. absurd t; from = λ p. nil≢cons (sym p) }
same_list-decides (x ∷ k) (y ∷ l) =
    reworded (λ p. ap₂ (λ a b. a ∷ b) p.0 p.1) (λ p. (head-eq_of_cons-eq p, tail-eq_of_cons-eq p))
    (and-decides (same-decides x y) (same_list-decides k l))

pub has-decides : (x : ℤ) (l : List ℤ) → Decides (has x l) (x ∈ l)
has-decides x l = reworded (λ r. Memᴰ.cast r.2 r.1) (λ m. (x, m, refl)) (any-decides (same-decides x) l)

-- Complements and variables

pub complement-twice : (x : ℤ) → complement (complement x) ≡ x
complement-twice = neg_ℤ-neg_ℤ

pub variable-complement : (x : ℤ) → variable (complement x) ≡ variable x
variable-complement (pos zero) = refl
variable-complement (pos (suc n)) = refl
variable-complement (negsuc n) = refl

-- a variable's literals are a literal and its complement
unfoldable pub same-variable : (x y : ℤ) → variable x ≡ variable y → (x ≡ y) ⊎ (x ≡ complement y)
same-variable (pos m) (pos n) e = inl (ap pos e)
same-variable (pos zero) (negsuc n) e = absurd (omega arith)
same-variable (pos (suc m)) (negsuc n) e = inr (ap pos e)
same-variable (negsuc m) (pos zero) e = absurd (omega arith)
same-variable (negsuc m) (pos (suc n)) e = inr (ap negsuc (omega arith))
same-variable (negsuc m) (negsuc n) e = inl (ap negsuc (omega arith))

-- only 0 has the variable 0
pub variable-positive : (x : ℤ) → x ≢ pos 0 → 1 ≤ variable x
variable-positive (pos zero) f = absurd (f refl)
variable-positive (pos (suc n)) f = omega arith
variable-positive (negsuc n) f = omega arith

-- Order

insert→ : {x : ℤ} (y : ℤ) (l : List ℤ) → x ∈ insert y l → x ∈ y ∷ l
unfolding insert
insert→ y [] m = m
insert→ {x} y (v ∷ l) m = go (λ n. insert→ y l n) (ltb (variable y) (variable v)) m
  where
    past : x ∈ y ∷ l → x ∈ y ∷ v ∷ l
    past (Memᴰ.head p) = Memᴰ.head p
    past (Memᴰ.tail n) = Memᴰ.tail (Memᴰ.tail n)

    go : (x ∈ insert y l → x ∈ y ∷ l) → (b : Bool) → x ∈ cond b (y ∷ v ∷ l) (v ∷ insert y l) → x ∈ y ∷ v ∷ l
    go g true n = n
    go g false (Memᴰ.head p) = Memᴰ.tail (Memᴰ.head p)
    go g false (Memᴰ.tail n) = past (g n)

insert← : {x : ℤ} (y : ℤ) (l : List ℤ) → x ∈ y ∷ l → x ∈ insert y l
unfolding insert
insert← y [] m = m
insert← {x} y (v ∷ l) m = go (λ n. insert← y l n) (ltb (variable y) (variable v)) m
  where
    go : (x ∈ y ∷ l → x ∈ insert y l) → (b : Bool) → x ∈ y ∷ v ∷ l → x ∈ cond b (y ∷ v ∷ l) (v ∷ insert y l)
    go g true n = n
    go g false (Memᴰ.head p) = Memᴰ.tail (g (Memᴰ.head p))
    go g false (Memᴰ.tail (Memᴰ.head p)) = Memᴰ.head p
    go g false (Memᴰ.tail (Memᴰ.tail n)) = Memᴰ.tail (g (Memᴰ.tail n))

insert_all→ : {x : ℤ} (k l : List ℤ) → x ∈ insert_all k l → (x ∈ k) ⊎ (x ∈ l)
unfolding insert_all
insert_all→ k [] m = inl m
insert_all→ {x} k (y ∷ l) m = elim (insert_all→ (insert y k) l m) [ inl n ↦ placed (insert→ y k n) | inr n ↦ inr (Memᴰ.tail n) ]
  where
    placed : x ∈ y ∷ k → (x ∈ k) ⊎ (x ∈ y ∷ l)
    placed (Memᴰ.head p) = inr (Memᴰ.head p)
    placed (Memᴰ.tail n) = inl n

insert_all← : {x : ℤ} (k l : List ℤ) → (x ∈ k) ⊎ (x ∈ l) → x ∈ insert_all k l
unfolding insert_all
insert_all← k [] (inl m) = m
insert_all← k [] (inr m) = elim m [ ]
insert_all← k (y ∷ l) (inl m) = insert_all← (insert y k) l (inl (insert← y k (Memᴰ.tail m)))
insert_all← k (y ∷ l) (inr (Memᴰ.head p)) = insert_all← (insert y k) l (inl (insert← y k (Memᴰ.head p)))
insert_all← k (y ∷ l) (inr (Memᴰ.tail m)) = insert_all← (insert y k) l (inr m)

-- an ascending list has the elements of the list
pub ascending→ : {x : ℤ} (l : List ℤ) → x ∈ ascending l → x ∈ l
ascending→ {x} l m = elim (insert_all→ [] l m) [ inl n ↦ elim n [ ] | inr n ↦ n ]

pub ascending← : {x : ℤ} (l : List ℤ) → x ∈ l → x ∈ ascending l
ascending← l m = insert_all← [] l (inr m)

-- a word above 0 is its variable
pub positive : (z : ℤ) → T (lt_z (pos 0) z) → (z ≡ pos (variable z)) × (1 ≤ variable z)
positive (pos n) t = (refl, ltb-true 0 n ((passed (ltb 0 n)).to t))
positive (negsuc n) t = absurd t

-- `==` of two slices of words
pub same_list-is : (a b : List ℤ) → pointwise int_eq a b ≡ same_list a b
same_list-is a b =
    let d = signed_items a b in
    same_test (passed (pointwise int_eq a b)) (same_list-decides a b) d.0 d.1
