-- Lists that a nogood may be (`Literals` of specs/Store.antt): made from others by sorting, by complements, or literal by literal.
-- Assumes nothing.
use mathlib.Core.Path.{◌≡◌, refl, sym, ap, ap₂, subst, ◌∙◌}
use mathlib.Core.Bool.{not, ◌&&◌}
use mathlib.Core.List.Memᴰ
use mathlib.Core.List.{List, [], ◌∷◌, map, head-eq_of_cons-eq, tail-eq_of_cons-eq, nil≢cons}
use Prim.Native.Nat.{ℕ, ◌≤◌}
use lib.Dec.{eqb}
use lib.IntN.{ℤ}
use Rattle.words.specs.Limits.{largest}
use Rattle.words.specs.Lists.{◌∈◌, any}
use Rattle.words.specs.Literals.{variable, complement, mentions, distinct, ascending}
use Rattle.words.proofs.Lists.{if-true, is_true, each-cons}
use Rattle.words.proofs.Literals.{variable-complement, ascending→}
use Rattle.words.proofs.Sorting.{none-twice-ascending}
use Rattle.words.proofs.Places.{once-decides}
use Rattle.nogoods.specs.Store.{Stored, record_of, added_in}
use Rattle.nogoods.specs.Keeps.{Literals}

pub literals-ascending : (l : List ℤ) → Literals l → Literals (ascending l)
literals-ascending l h =
    record {
      low = λ x m. h.low x (ascending→ l m);
      high = λ x m. h.high x (ascending→ l m);
      once = none-twice-ascending l ∙ h.once;
    }

-- what a step adds
pub added-literals : (n : ℕ) (gs : List (List ℤ)) → ((g : List ℤ) → g ∈ gs → Literals g) → (e : Stored) → e ∈ added_in n gs → Literals e.literals
added-literals n gs h e m = let r = Memᴰ.of_map (record_of n) gs m in rw (← r.2) (h r.0 r.1)

-- Literal by literal

pub literals-nil : Literals []
literals-nil = record { low = λ x m. absurd (Memᴰ.not-nil m); high = λ x m. absurd (Memᴰ.not-nil m); once = refl }

pub literals-cons : (x : ℤ) (l : List ℤ) → 1 ≤ variable x → variable x ≤ largest → ((y : ℤ) → y ∈ l → ¬ (variable x ≡ variable y)) → Literals l
    → Literals (x ∷ l)
literals-cons x l a b f h =
    record {
      low = each-cons {P = λ y. 1 ≤ variable y} a h.low;
      high = each-cons {P = λ y. variable y ≤ largest} b h.high;
      once = is_true (once-decides x l) (λ r. f r.0 r.1 r.2, h.once);
    }

module _ (x : ℤ) (l : List ℤ) (h : Literals (x ∷ l)) where
  -- the variable of the first is that of no other
  pub literals-apart : (y : ℤ) → y ∈ l → ¬ (variable x ≡ variable y)
  literals-apart y m e = (if-true (once-decides x l) h.once).0 (y, m, e)

  pub literals-tail : Literals l
  literals-tail =
      record {
        low = λ y m. h.low y (Memᴰ.tail m);
        high = λ y m. h.high y (Memᴰ.tail m);
        once = (if-true (once-decides x l) h.once).1;
      }

  -- the first with another's complement
  pub literals-pair : (y : ℤ) → y ∈ l → Literals (x ∷ complement y ∷ [])
  literals-pair y m =
      let v = variable-complement y in
      literals-cons x (complement y ∷ []) (h.low x (Memᴰ.head refl)) (h.high x (Memᴰ.head refl))
      (each-cons {P = λ z. ¬ (variable x ≡ variable z)} (rw v (literals-apart y m)) (λ z n. absurd (Memᴰ.not-nil n)))
      (literals-cons (complement y) [] (rw v (h.low y (Memᴰ.tail m))) (rw v (h.high y (Memᴰ.tail m)))
      (λ z n. absurd (Memᴰ.not-nil n)) literals-nil)

-- The variables alone decide

mentions-variables : (v : ℕ) (l : List ℤ) → mentions v l ≡ any (eqb v) (map variable l)
mentions-variables v [] = refl
mentions-variables v (x ∷ l) = rw (mentions-variables v l)

none-twice-variables : (l m : List ℤ) → map variable l ≡ map variable m → distinct l ≡ distinct m
none-twice-variables [] [] e = refl
none-twice-variables [] (y ∷ m) e = absurd (nil≢cons e)
none-twice-variables (x ∷ l) [] e = absurd (nil≢cons (sym e))
none-twice-variables (x ∷ l) (y ∷ m) e =
    let p : variable x ≡ variable y = head-eq_of_cons-eq e in
    let q : map variable l ≡ map variable m = tail-eq_of_cons-eq e in
    let a : mentions (variable x) l ≡ mentions (variable y) m =
    mentions-variables (variable x) l ∙ ap₂ (λ v k. any (eqb v) k) p q ∙ sym (mentions-variables (variable y) m) in
    ap₂ (λ s t. not s && t) a (none-twice-variables l m q)

-- two lists with the same variables, one by one
pub literals-variables : (l m : List ℤ) → map variable l ≡ map variable m → Literals l → Literals m
literals-variables l m e h =
    record {
      low = λ x n. let r = from x n in subst (λ v. 1 ≤ v) r.2 (h.low r.0 r.1);
      high = λ x n. let r = from x n in subst (λ v. v ≤ largest) r.2 (h.high r.0 r.1);
      once = sym (none-twice-variables l m e) ∙ h.once;
    }
  where
    from : (x : ℤ) → x ∈ m → (y : ℤ) × (y ∈ l) × (variable y ≡ variable x)
    from x n = Memᴰ.of_map variable l (subst (λ (k : List ℕ). variable x ∈ k) (sym e) (Memᴰ.map variable n))

pub variables-complements : (l : List ℤ) → map variable (map complement l) ≡ map variable l
variables-complements [] = refl
variables-complements (x ∷ l) = ap₂ (λ v k. v ∷ k) (variable-complement x) (variables-complements l)

-- the first literal's complement, or those of the others
pub literals-complement-first : (x : ℤ) (l : List ℤ) → Literals (x ∷ l) → Literals (complement x ∷ l)
literals-complement-first x l h =
    literals-variables (x ∷ l) (complement x ∷ l) (ap (λ v. v ∷ map variable l) (sym (variable-complement x))) h

pub literals-complement-others : (x : ℤ) (l : List ℤ) → Literals (x ∷ l) → Literals (x ∷ map complement l)
literals-complement-others x l h =
    literals-variables (x ∷ l) (x ∷ map complement l) (ap (λ k. variable x ∷ k) (sym (variables-complements l))) h
