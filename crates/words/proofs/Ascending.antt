-- Laws on `ascends`: one more turn of a loop over a list that is to ascend, and what it says of words that rise by variable.
-- Assumes nothing.
use mathlib.Core.Path.{◌≡◌, refl}
use mathlib.Core.Bool.{true, false}
use mathlib.Core.List.Memᴰ
use mathlib.Core.List.{List, [], ◌∷◌, map}
use Prim.Native.Nat.{ℕ, ◌+◌, ◌<◌, ◌≤◌}
use native.Mathlib.Omega.{arith}
use native.Mathlib.Numerals.{add-one}
use borrow.Author.Tests.{lt-ltb, le-ltb, le-leb, lt-leb, ltb-true, leb-true}
use lib.Dec.{ltb, leb}
use lib.IntN.{ℤ}
use lib.ListN.{length, drop, get_or, drop_of_length-le}
use lib.Seq.{drop-cons}
use Rattle.words.specs.Lists.{◌∈◌, ascends}
use Rattle.words.specs.Literals.{variable, rising, top}
use Rattle.words.proofs.Lists.{and_left, and_right}

module _ (low high : ℕ) (l : List ℕ) (i : ℕ) (h : i < length l) where
  -- the number at i is above `low` and at most `high`, and the rest decides
  pub ascends-on : low < get_or l i 0 → get_or l i 0 ≤ high → ascends low high (drop i l) ≡ ascends (get_or l i 0) high (drop (i + 1) l)
  ascends-on p q = rw (add-one, drop-cons l i 0 h, lt-ltb low (get_or l i 0) p, le-leb (get_or l i 0) high q)

  pub ascends-low : get_or l i 0 ≤ low → ascends low high (drop i l) ≡ false
  ascends-low p = rw (drop-cons l i 0 h, le-ltb low (get_or l i 0) p)

  pub ascends-high : low < get_or l i 0 → high < get_or l i 0 → ascends low high (drop i l) ≡ false
  ascends-high p q = rw (drop-cons l i 0 h, lt-ltb low (get_or l i 0) p, lt-leb (get_or l i 0) high q)

pub ascends-end : (low high : ℕ) (l : List ℕ) {i : ℕ} → length l ≤ i → ascends low high (drop i l) ≡ true
ascends-end low high l h = rw (drop_of_length-le l h)

-- the numbers of an ascending list are above `low` and at most `high`
pub ascends-in : {v : ℕ} (low high : ℕ) {l : List ℕ} → ascends low high l ≡ true → v ∈ l → (low < v) × (v ≤ high)
ascends-in low high e (Memᴰ.head {x = x} {xs = l} p) =
    let f = and_right (ltb low x) _ e in
    rw p (ltb-true low x (and_left (ltb low x) _ e), leb-true x high (and_left (leb x high) _ f))
ascends-in low high e (Memᴰ.tail {x = x} {xs = l} i) =
    let f = and_right (ltb low x) _ e in
    let h = ascends-in x high (and_right (leb x high) _ f) i in
    (omega (arith, ltb-true low x (and_left (ltb low x) _ e)), h.1)

-- Words whose variables ascend

pub ascends-rising : (low high : ℕ) (l : List ℤ) → ascends low high (map variable l) ≡ true → rising l ≡ true
ascends-rising low high [] e = refl
ascends-rising low high (x ∷ []) e = refl
ascends-rising low high (x ∷ y ∷ l) e =
    let f = and_right (leb (variable x) high) _ (and_right (ltb low (variable x)) _ e) in
    rw (and_left (ltb (variable x) (variable y)) _ f) (ascends-rising (variable x) high (y ∷ l) f)

pub rising-ascends : (low high : ℕ) (l : List ℤ) → rising l ≡ true → ((z : ℤ) → z ∈ l → (low < variable z) × (variable z ≤ high)) → ascends low high (map variable l) ≡ true
rising-ascends low high [] e b = refl
rising-ascends low high (x ∷ l) e b = from low x l e (b x (Memᴰ.head refl)).0 (λ z i. (b z i).1)
  where
    from : (low : ℕ) (x : ℤ) (l : List ℤ) → rising (x ∷ l) ≡ true → low < variable x → ((z : ℤ) → z ∈ x ∷ l → variable z ≤ high) → ascends low high (map variable (x ∷ l)) ≡ true
    from low x [] e p b = rw (lt-ltb low (variable x) p, le-leb (variable x) high (b x (Memᴰ.head refl)))
    from low x (y ∷ l) e p b =
        rw (lt-ltb low (variable x) p, le-leb (variable x) high (b x (Memᴰ.head refl)))
        (from (variable x) y l (and_right (ltb (variable x) (variable y)) _ e) (ltb-true (variable x) (variable y) (and_left _ _ e)) (λ z i. b z (Memᴰ.tail i)))

pub ascends-words : (low high : ℕ) (l : List ℤ) → ascends low high (map variable l) ≡ true → (z : ℤ) → z ∈ l → (low < variable z) × (variable z ≤ high)
ascends-words low high l e z i = ascends-in low high e (Memᴰ.map variable i)

pub top-ascends : (low high : ℕ) (l : List ℤ) → ascends low high (map variable l) ≡ true → top l ≤ high
top-ascends low high [] e = omega arith
top-ascends low high (z ∷ l) e =
    let f = and_right (ltb low (variable z)) _ e in
    let p = leb-true (variable z) high (and_left (leb (variable z) high) _ f) in
    let q = top-ascends (variable z) high l (and_right (leb (variable z) high) _ f) in
    omega arith
