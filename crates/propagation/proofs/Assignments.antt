-- Assignments: what an entry says of the literals of its variable, and what one more entry changes.
-- Assumes nothing.
use mathlib.Core.Path.{◌≡◌, refl, sym, ap, ap₂, ◌∙◌}
use mathlib.Core.Logic.{◌⊎◌, inl, inr}
use mathlib.Core.List.{List, [], ◌∷◌, ◌++◌}
use Prim.Native.Nat.{ℕ, zero, suc, ◌-◌, ◌≤◌, ◌<◌}
use native.Mathlib.Omega.{arith}
use lib.IntN.{ℤ, pos, negsuc}
use lib.ListN.{length, get_or, set, drop, replicate}
use lib.Seq.{get_or-set_same, get_or-set_other}
use Rattle.words.specs.Lists.{◌∈◌}
use Rattle.words.specs.Literals.{variable, complement}
use Rattle.words.proofs.Literals.{variable-complement, same-variable}
use Rattle.words.proofs.Places.{equal?, in-at, place-of, variables-differ}
use Rattle.words.proofs.Laws.{padded}
use Rattle.nogoods.specs.Keeps.{Literals}
use Rattle.propagation.specs.Propagate.{entry, Assigns, Valued, BlankFrom, free}
use Rattle.propagation.specs.declared.units.Value.TheVariants.{Free}

pub entry-cases : (z : ℤ) → (entry z ≡ 1) ⊎ (entry z ≡ 2)
entry-cases (pos n) = inl refl
entry-cases (negsuc n) = inr refl

pub entry-most : (z : ℤ) → entry z ≤ 2
entry-most (pos n) = omega arith
entry-most (negsuc n) = omega arith

pub entry-complement : (z : ℤ) → 1 ≤ variable z → entry (complement z) ≡ 3 - entry z
entry-complement (pos zero) h = absurd (omega arith)
entry-complement (pos (suc n)) h = refl
entry-complement (negsuc n) h = refl

pub positive-complement : (z : ℤ) → 1 ≤ variable z → 1 ≤ variable (complement z)
positive-complement z h = rw (variable-complement z) h

-- no literal is true with its complement
pub not-both : (m : List ℕ) (z : ℤ) → 1 ≤ variable z → Assigns m z → Assigns m (complement z) → ⊥
not-both m z h a b =
    let c : get_or m (variable z) 0 ≡ 3 - entry z = rw (variable-complement z, entry-complement z h) at b in
    elim (entry-cases z) [ inl e ↦ omega arith | inr e ↦ omega arith ]

free-less : (m : List ℕ) (v e : ℕ) → v < length m → ¬ (get_or m v 0 ≡ 1) → ¬ (get_or m v 0 ≡ 2) → (e ≡ 1) ⊎ (e ≡ 2) → suc (free (set m v e)) ≡ free m
free-less [] v e h a b c = absurd (omega arith)
free-less (zero ∷ m) zero e h a b (inl p) = rw p
free-less (zero ∷ m) zero e h a b (inr p) = rw p
free-less (suc zero ∷ m) zero e h a b c = absurd (a refl)
free-less (suc (suc zero) ∷ m) zero e h a b c = absurd (b refl)
free-less (suc (suc (suc n)) ∷ m) zero e h a b (inl p) = rw p
free-less (suc (suc (suc n)) ∷ m) zero e h a b (inr p) = rw p
free-less (zero ∷ m) (suc v) e h a b c = ap suc (free-less m v e (omega arith) a b c)
free-less (suc zero ∷ m) (suc v) e h a b c = free-less m v e (omega arith) a b c
free-less (suc (suc zero) ∷ m) (suc v) e h a b c = free-less m v e (omega arith) a b c
free-less (suc (suc (suc n)) ∷ m) (suc v) e h a b c = ap suc (free-less m v e (omega arith) a b c)

-- how many are free, of an entry and the others
pub free-cons : (x : ℕ) (m : List ℕ) → free (x ∷ m) ≤ suc (free m)
free-cons zero m = omega arith
free-cons (suc zero) m = omega arith
free-cons (suc (suc zero)) m = omega arith
free-cons (suc (suc (suc x))) m = omega arith

pub free-most : (m : List ℕ) → free m ≤ length m
free-most [] = omega arith
free-most (x ∷ m) = omega (arith, free-cons x m, free-most m)

-- one more entry, before the end
pub blank-set : (m : List ℕ) (v e end last : ℕ) → BlankFrom end m → end ≤ last → v < last → BlankFrom last (set m v e)
blank-set m v e end last b h l j k = get_or-set_other m v j e 0 (λ p. omega arith) ∙ b j (omega arith)

-- all entries before the end become 0
pub blanked : (end : ℕ) (m : List ℕ) → end ≤ length m → BlankFrom end m → replicate end 0 ++ drop end m ≡ replicate (length m) 0
blanked zero [] h b = refl
blanked zero (x ∷ m) h b = ap₂ ◌∷◌ (b 0 (omega arith)) (blanked zero m (omega arith) (λ j k. b (suc j) (omega arith)))
blanked (suc end) [] h b = absurd (omega arith)
blanked (suc end) (x ∷ m) h b = ap (λ (l : List ℕ). 0 ∷ l) (blanked end m (omega arith) (λ j k. b (suc j) (omega arith)))

-- nothing is true where all are free
pub none_true : (n : ℕ) (z : ℤ) → ¬ Assigns (replicate n 0) z
none_true n z a = let e = padded {A = ℕ} 0 [] n (variable z) in elim (entry-cases z) [ inl p ↦ omega arith | inr p ↦ omega arith ]

-- literals of which no variable stands twice have no literal with its complement
pub alone : (L : List ℤ) → Literals L → (i : ℕ) → i < length L → ¬ (complement (get_or L i (pos 0)) ∈ L)
alone L l i h u =
    let x = get_or L i (pos 0) in
    let r = place-of (pos 0) u in
    let e : variable (get_or L r.0 (pos 0)) ≡ variable x = ap variable r.2 ∙ variable-complement x in
    elim (equal? r.0 i) [
      | inl k ↦ unlike x (l.low x (in-at (pos 0) L i h)) (ap (λ (j : ℕ). get_or L j (pos 0)) (sym k) ∙ r.2)
      | inr k ↦ variables-differ L l.once r.0 i r.1 h k e
    ]
  where
    unlike : (x : ℤ) → 1 ≤ variable x → x ≡ complement x → ⊥
    unlike (pos zero) p q = omega arith
    unlike (pos (suc n)) p q = let z : entry (pos (suc n)) ≡ entry (negsuc n) = ap entry q in omega arith
    unlike (negsuc n) p q = let z : entry (negsuc n) ≡ entry (pos (suc n)) = ap entry q in omega arith

-- the assignment that makes x true as well
module _ (m : List ℕ) (x : ℤ) (h : variable x < length m) where
  abbrev with-x : List ℕ
  with-x = set m (variable x) (entry x)

  pub assigned : Assigns with-x x
  assigned = get_or-set_same m (variable x) (entry x) 0 h

  pub assigned→ : (y : ℤ) → 1 ≤ variable x → Assigns with-x y → (y ≡ x) ⊎ Assigns m y
  assigned→ y p a = elim (equal? (variable y) (variable x)) [
    | inr n ↦ inr (rw (get_or-set_other m (variable x) (variable y) (entry x) 0 n) at a)
    | inl e ↦ elim (same-variable y x e) [
      | inl q ↦ inl q
      | inr q ↦ absurd (not-both with-x x p assigned (rw q at a))
    ]
  ]

  pub assigned-kept : ¬ Assigns m (complement x) → (y : ℤ) → Assigns m y → Assigns with-x y
  assigned-kept f y a = elim (equal? (variable y) (variable x)) [
    | inr n ↦ rw (get_or-set_other m (variable x) (variable y) (entry x) 0 n) a
    | inl e ↦ elim (same-variable y x e) [
      | inl q ↦ rw q assigned
      | inr q ↦ absurd (f (rw q at a))
    ]
  ]

  pub assigned-fewer : 1 ≤ variable x → Valued m x Free → suc (free with-x) ≡ free m
  assigned-fewer p f =
      let q : ¬ (get_or m (variable x) 0 ≡ 3 - entry x) = λ e. f.1 (rw (variable-complement x, entry-complement x p) e) in
      free-less m (variable x) (entry x) h (no 1 (entry-cases x) (inl refl) q) (no 2 (entry-cases x) (inr refl) q) (entry-cases x)
    where
      no : (e : ℕ) → (entry x ≡ 1) ⊎ (entry x ≡ 2) → (e ≡ 1) ⊎ (e ≡ 2) → ¬ (get_or m (variable x) 0 ≡ 3 - entry x) → ¬ (get_or m (variable x) 0 ≡ e)
      no e (inl a) (inl b) q k = f.0 (k ∙ omega arith)
      no e (inl a) (inr b) q k = q (k ∙ omega arith)
      no e (inr a) (inl b) q k = q (k ∙ omega arith)
      no e (inr a) (inr b) q k = f.0 (k ∙ omega arith)
