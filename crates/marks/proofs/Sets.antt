-- Sets of numbers as marks: one more mark, marks made number by number, and two sets compared.
-- Assumes nothing.
use mathlib.Core.Path.{◌≡◌, refl, sym, ◌∙◌, fun_ext, ap}
use mathlib.Core.Bool.{Bool, true, false, true≢false, beq, ◌||◌, or_assoc, or_comm, or-false}
use mathlib.Core.List.{List, [], ◌∷◌}
use mathlib.Core.Logic.{inl, inr}
use Prim.Native.Nat.{ℕ, zero, suc, ◌-◌, ◌≤◌, ◌<◌, ◌+◌}
use native.Mathlib.Omega.{arith}
use borrow.Author.Tests.{eqb-true, eqb-false, leb-true}
use lib.Dec.{eqb, ltb, leb}
use lib.ListN.{length, set, replicate, length-set, length-replicate, get_or-replicate}
use lib.Seq.{get_or-set_same, get_or-set_other}
use Rattle.words.specs.Limits.{largest, entries}
use Rattle.words.proofs.Lists.{Decides, passed, reworded, and-decides, and_right, and_left, or_swap, one_less, nothing_left}
use Rattle.words.proofs.Places.{equal?}
use Rattle.marks.specs.Marks.{listed, marked, Marks, up_to, agree, same_marks, mark_all}
use Rattle.words.specs.Lists.{ascends}

pub marked-set : (m : List ℕ) (x v : ℕ) → (v ≡ x → x < length m) → marked (set m x 1) v ≡ (eqb v x || marked m v)
marked-set m x v h = by (eqb v x) refl
  where
    by : (t : Bool) → eqb v x ≡ t → marked (set m x 1) v ≡ (t || marked m v)
    by true e = let p = eqb-true v x e in rw (p, get_or-set_same m x 1 0 (h p))
    by false e = rw (get_or-set_other m x v 1 0 (eqb-false v x e))

marked_all : (low high : ℕ) (l m : List ℕ) (v : ℕ) → ascends low high l ≡ true → high < length m → marked (mark_all l m) v ≡ (listed l v || marked m v)
marked_all low high [] m v e h = refl
marked_all low high (x ∷ l) m v e h =
    let f = and_right (ltb low x) _ e in
    let p = leb-true x high (and_left (leb x high) _ f) in
    marked_all x high l (set m x 1) v (and_right (leb x high) _ f) (rw (length-set m x 1) h)
    ∙ rw (marked-set m x v (λ k. omega arith)) (or_swap (listed l v) (eqb v x) (marked m v) ∙ sym (or_assoc (eqb v x) (listed l v) (marked m v)))

pub none-marked : (n v : ℕ) → marked (replicate n 0) v ≡ false
none-marked zero v = refl
none-marked (suc n) zero = refl
none-marked (suc n) (suc v) = none-marked n v

pub marks-listed : (high n : ℕ) (l : List ℕ) → ascends 0 high l ≡ true → high < n → marked (mark_all l (replicate n 0)) ≡ listed l
marks-listed high n l e h =
    fun_ext (λ v. marked_all 0 high l (replicate n 0) v e (rw (length-replicate n) h) ∙ rw (none-marked n v) (or-false (listed l v)))

-- A loop that marks number by number: what is marked and what is left make the whole.
pub record MarkedSoFar (m left whole : List ℕ) : Type 0 where
  pub long : length m ≡ entries
  pub has : (v : ℕ) → v ≤ largest → (marked m v || listed left v) ≡ listed whole v

-- nothing is marked
pub found_none : (l : List ℕ) → MarkedSoFar (replicate entries 0) l l
found_none l = record { long = length-replicate {A = ℕ} entries 0; has = λ v h. rw (get_or-replicate {A = ℕ} entries v 0 0 (omega arith)) refl }

-- one more number
pub found-on : {m left whole : List ℕ} {x : ℕ} → MarkedSoFar m (x ∷ left) whole → MarkedSoFar (set m x 1) left whole
found-on {m} {left} {whole} {x} f = record {
  long = length-set m x 1 ∙ f.long;
  has = λ v h.
      rw (marked-set m x v (λ k. omega (arith, f.long, h)), or_comm (eqb v x) (marked m v), or_assoc (marked m v) (eqb v x) (listed left v)) (f.has v h);
}

-- nothing is left
pub found_all : {m whole : List ℕ} → MarkedSoFar m [] whole → Marks m whole
found_all {m} f = record { long = f.long; has = λ v h. sym (or-false (marked m v)) ∙ f.has v h }

-- Numbers from the top down, and in order

pub up_to-on : (n : ℕ) → 0 < n → up_to n ≡ n ∷ up_to (n - 1)
up_to-on n h = ap up_to (one_less n h) ∙ ap (λ k. k ∷ up_to (n - 1)) (sym (one_less n h))

pub up_to-end : (n : ℕ) → n ≤ 0 → up_to n ≡ []
up_to-end n h = ap up_to (nothing_left n h)

-- one more number, above all those before
pub marks_next : {m : List ℕ} (i : ℕ) → 0 < i → Marks m (up_to (i - 1)) → Marks (set m i 1) (up_to (i + 1 - 1))
marks_next {m} i h f =
    let e : i + 1 - 1 ≡ i = omega arith in
    record {
      long = length-set m i 1 ∙ f.long;
      has = λ v b. marked-set m i v (λ k. omega (arith, f.long, b)) ∙ rw (f.has v b) (ap (λ k. listed k v) (sym (ap up_to e ∙ up_to-on i h)));
    }

-- The same sets

pub agree-beq : (a b : Bool) → beq a b ≡ agree a b
agree-beq true true = refl
agree-beq true false = refl
agree-beq false true = refl
agree-beq false false = refl

agree_decides : (a b : Bool) → Decides (agree a b) (a ≡ b)
agree_decides true b = reworded sym sym (passed b)
agree_decides false true = record { to = λ t. absurd t; from = λ e. absurd (true≢false (sym e)) }
agree_decides false false = record { to = λ t. refl; from = λ e. tt }

pub same-marks : (n : ℕ) (a b : List ℕ) → Decides (same_marks n a b) ((v : ℕ) → v < n → marked a v ≡ marked b v)
unfolding same_marks
same-marks zero a b = record { to = λ t v h. absurd (omega arith); from = λ g. tt }
same-marks (suc n) a b = reworded every (λ g. (g n (omega arith), λ v h. g v (omega arith))) (and-decides (agree_decides (marked a n) (marked b n)) (same-marks n a b))
  where
    every : (marked a n ≡ marked b n) × ((v : ℕ) → v < n → marked a v ≡ marked b v) → (v : ℕ) → v < suc n → marked a v ≡ marked b v
    every p v h = elim (equal? v n) [ inl e ↦ rw e p.0 | inr k ↦ p.1 v (omega (arith, k)) ]
