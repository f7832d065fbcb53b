-- Of the elements of a list that pass a test, one at the lowest height. Assumes nothing.
use mathlib.Core.Path.{refl, sym, subst}
use mathlib.Core.Logic.{◌⊎◌, inl, inr}
use mathlib.Core.Bool.{Bool, not}
use mathlib.Core.List.Memᴰ
use mathlib.Core.List.{List, [], ◌∷◌}
use Prim.Native.Nat.{ℕ, ◌≤◌}
use native.Mathlib.Omega.{arith}
use lib.Dec.{T, leb}
use Rattle.words.specs.Lists.{◌∈◌}
use Rattle.words.proofs.Lists.{itself, answered, leb-decides, not-decides}

pub record Lowest {A : Type 0} (height : A → ℕ) (f : A → Bool) (l : List A) : Type 0 where
  pub one : A
  pub among : one ∈ l
  pub passes : T (f one)
  pub least : (y : A) → y ∈ l → T (f y) → height one ≤ height y

module _ {A : Type 0} (height : A → ℕ) (f : A → Bool) where
  lowest : (l : List A) → ((y : A) → y ∈ l → ¬ T (f y)) ⊎ Lowest height f l
  lowest [] = inl (λ y i. elim i [ ])
  lowest (c ∷ l) = go (answered (f c)) (lowest l)
    where
      lower : (o : Lowest height f l) → (T (f c) → height o.one ≤ height c) → Lowest height f (c ∷ l)
      lower o h = record { one = o.one; among = Memᴰ.tail o.among; passes = o.passes; least = λ y i t. each y i t }
        where
          each : (y : A) → y ∈ c ∷ l → T (f y) → height o.one ≤ height y
          each y (Memᴰ.head e) t = subst (λ v. height o.one ≤ height v) (sym e) (h (subst (λ v. T (f v)) e t))
          each y (Memᴰ.tail i) t = o.least y i t

      mine : T (f c) → ((y : A) → y ∈ l → T (f y) → height c ≤ height y) → Lowest height f (c ∷ l)
      mine p h = record { one = c; among = Memᴰ.head refl; passes = p; least = λ y i t. each y i t }
        where
          each : (y : A) → y ∈ c ∷ l → T (f y) → height c ≤ height y
          each y (Memᴰ.head e) t = subst (λ v. height c ≤ height v) (sym e) (omega arith)
          each y (Memᴰ.tail i) t = h y i t

      compared : T (f c) → (o : Lowest height f l) → T (leb (height c) (height o.one)) ⊎ T (not (leb (height c) (height o.one))) → Lowest height f (c ∷ l)
      compared p o (inl h) = let k = (leb-decides (height c) (height o.one)).to h in mine p (λ y i t. let m = o.least y i t in omega arith)
      compared p o (inr h) = let k = (not-decides (leb-decides (height c) (height o.one))).to h in lower o (λ t. omega arith)

      neither : T (not (f c)) → ((y : A) → y ∈ l → ¬ T (f y)) → (y : A) → y ∈ c ∷ l → ¬ T (f y)
      neither p h y (Memᴰ.head e) t = (not-decides (itself (f c))).to p (subst (λ v. T (f v)) e t)
      neither p h y (Memᴰ.tail i) t = h y i t

      go : T (f c) ⊎ T (not (f c)) → ((y : A) → y ∈ l → ¬ T (f y)) ⊎ Lowest height f l → ((y : A) → y ∈ c ∷ l → ¬ T (f y)) ⊎ Lowest height f (c ∷ l)
      go (inl p) (inl h) = inr (mine p (λ y i t. absurd (h y i t)))
      go (inl p) (inr o) = inr (compared p o (answered (leb (height c) (height o.one))))
      go (inr p) (inl h) = inl (neither p h)
      go (inr p) (inr o) = inr (lower o (λ t. absurd ((not-decides (itself (f c))).to p t)))

  pub lowest-at : (l : List A) (x : A) → x ∈ l → T (f x) → Lowest height f l
  lowest-at l x i t = go (lowest l)
    where
      go : ((y : A) → y ∈ l → ¬ T (f y)) ⊎ Lowest height f l → Lowest height f l
      go (inl h) = absurd (h x i t)
      go (inr o) = o
