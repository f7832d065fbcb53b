-- One turn of the definitions: what the first number of a list makes of a tree, and one more length of a sum. Assumes nothing.
use mathlib.Core.Path.{◌≡◌, refl, sym, ap, ap₂, ◌∙◌, subst}
use mathlib.Core.Bool.{Bool, true, false, not, ◌&&◌, ◌||◌, and-false, true≢false}
use mathlib.Core.List.{List, [], ◌∷◌, ◌++◌}
use Prim.Native.Nat.{ℕ, zero, suc, ◌+◌, ◌-◌, ◌<◌, ◌≤◌}
use native.Mathlib.Numerals.{add-one}
use native.Mathlib.Omega.{arith}
use borrow.Author.Tests.{ltb-true, ltb-false, eqb-true, eqb-false, eq-eqb, ne_eqb, le-leb, lt-leb}
use lib.Dec.{eqb, ltb, leb}
use lib.ListN.{length, take, drop, set, get_or, drop_of_length-le, length-drop}
use lib.Seq.{drop-cons, take-suc-set, drop-drop}
use Rattle.words.specs.Lists.{any}
use Rattle.derivation.specs.States.{is_atom}
use Rattle.shapes.specs.Tree.{end, split, Parsed, bad, found, and_then, tree_of, sum}
use Rattle.shapes.specs.Walks.{Walks, is_tree}
use Rattle.shapes.specs.declared.Walked.{Walked}
use Rattle.std.specs.Prelude.{Option, Some, None}

-- Sums

pub sum-on : (l : List ℕ) (i : ℕ) → i < length l → sum (drop i l) ≡ get_or l i 0 + sum (drop (i + 1) l)
sum-on l i h = rw (add-one, drop-cons l i 0 h)

pub sum-none : (l : List ℕ) {i : ℕ} → length l ≤ i → sum (drop i l) ≡ 0
sum-none l h = rw (drop_of_length-le l h)

-- two tests of numbers that say the same
pub same-eqb : (a b c d : ℕ) → (a ≡ b → c ≡ d) → (c ≡ d → a ≡ b) → eqb a b ≡ eqb c d
same-eqb a b c d f g = by (eqb a b) refl
  where
    by : (t : Bool) → eqb a b ≡ t → eqb a b ≡ eqb c d
    by true e = e ∙ sym (eq-eqb c d (f (eqb-true a b e)))
    by false e = e ∙ sym (ne_eqb c d (λ q. eqb-false a b e (g q)))

-- The path

-- the path of the sides has the split's atom behind it
pub path-below : (path : List ℕ) (depth v : ℕ) → length path ≡ 6 → 0 < depth → depth ≤ 6
    → take (6 - (depth - 1)) (set path (6 - depth) v) ≡ take (6 - depth) path ++ (v ∷ [])
path-below path depth v l h m =
    let e : 6 - (depth - 1) ≡ suc (6 - depth) = omega arith in rw e (take-suc-set path (6 - depth) v (omega (arith, l)))

-- The first number

module _ (N : ℕ) (path : List ℕ) where
  pub no_number : (depth : ℕ) (l : List ℕ) → length l ≡ 0 → tree_of depth path N l ≡ bad
  unfolding tree_of
  no_number zero [] e = refl
  no_number (suc d) [] e = refl
  no_number depth (v ∷ ns) e = absurd (omega (arith, e))

  pub at-end : (depth : ℕ) (l : List ℕ) → ¬ (length l ≡ 0) → get_or l 0 0 ≡ 0 → tree_of depth path N l ≡ found end (drop 1 l)
  unfolding tree_of
  at-end depth [] h e = absurd (h refl)
  at-end zero (v ∷ ns) h e = rw (eq-eqb v 0 e)
  at-end (suc d) (v ∷ ns) h e = rw (eq-eqb v 0 e)

  pub too-deep : (depth : ℕ) (l : List ℕ) → ¬ (length l ≡ 0) → ¬ (get_or l 0 0 ≡ 0) → depth ≡ 0 → tree_of depth path N l ≡ bad
  unfolding tree_of
  too-deep depth [] h n e = absurd (h refl)
  too-deep zero (v ∷ ns) h n e = rw (ne_eqb v 0 n)
  too-deep (suc d) (v ∷ ns) h n e = absurd (omega (arith, e))

  -- a foreign atom, or one that is on the path
  pub refused-atom : (depth : ℕ) (l : List ℕ) → ¬ (length l ≡ 0) → ¬ (get_or l 0 0 ≡ 0) → ¬ (depth ≡ 0)
      → (ltb N (get_or l 0 0) || any (eqb (get_or l 0 0)) path) ≡ true → tree_of depth path N l ≡ bad
  unfolding tree_of
  refused-atom depth [] h n d e = absurd (h refl)
  refused-atom zero (v ∷ ns) h n d e = absurd (d refl)
  refused-atom (suc k) (v ∷ ns) h n d e = rw (ne_eqb v 0 n, by (ltb N v) refl (any (eqb v) path) e)
    where
      by : (a : Bool) → ltb N v ≡ a → (b : Bool) → (a || b) ≡ true → (is_atom N v && not b) ≡ false
      by true p b q = rw (lt-leb v N (ltb-true N v p), and-false (leb 1 v))
      by false p true q = and-false (is_atom N v)
      by false p false q = absurd (true≢false (sym q))

  opened-at : (depth : ℕ) (l : List ℕ) → ¬ (length l ≡ 0) → ¬ (get_or l 0 0 ≡ 0) → ¬ (depth ≡ 0)
      → (ltb N (get_or l 0 0) || any (eqb (get_or l 0 0)) path) ≡ false
      → tree_of depth path N l
      ≡ and_then (tree_of (depth - 1) (path ++ (get_or l 0 0 ∷ [])) N (drop 1 l))
      (λ t rest. and_then (tree_of (depth - 1) (path ++ (get_or l 0 0 ∷ [])) N rest) (λ u rest'. found (split (get_or l 0 0) t u) rest'))
  unfolding tree_of
  opened-at depth [] h n d e = absurd (h refl)
  opened-at zero (v ∷ ns) h n d e = absurd (d refl)
  opened-at (suc k) (v ∷ ns) h n d e =
      let i : suc k - 1 ≡ k = omega arith in rw (ne_eqb v 0 n, by (ltb N v) refl (any (eqb v) path) e, i) refl
    where
      by : (a : Bool) → ltb N v ≡ a → (b : Bool) → (a || b) ≡ false → (is_atom N v && not b) ≡ true
      by true p b q = absurd (true≢false q)
      by false p true q = absurd (true≢false q)
      by false p false q = let low : 1 ≤ v = omega (arith, n) in rw (le-leb 1 v low, le-leb v N (ltb-false N v p)) refl

  -- a split: its first side, and then its second
  module _ (depth : ℕ) (l : List ℕ) (h : ¬ (length l ≡ 0)) (n : ¬ (get_or l 0 0 ≡ 0)) (d : ¬ (depth ≡ 0))
      (good : (ltb N (get_or l 0 0) || any (eqb (get_or l 0 0)) path) ≡ false) where
    abbrev Below : List ℕ → Parsed
    Below rest = tree_of (depth - 1) (path ++ (get_or l 0 0 ∷ [])) N rest

    opened : tree_of depth path N l ≡ and_then (Below (drop 1 l)) (λ t rest. and_then (Below rest) (λ u rest'. found (split (get_or l 0 0) t u) rest'))
    opened = opened-at depth l h n d good

    pub first-none : Below (drop 1 l) ≡ bad → tree_of depth path N l ≡ bad
    first-none e = opened ∙ rw e

    module _ {w : Walked} (f : Walks (Below (drop 1 l)) (drop 1 l) (Some w)) where
      pub second-none : Below (drop w.numbers (drop 1 l)) ≡ bad → tree_of depth path N l ≡ bad
      second-none g = opened ∙ rw (f.1, g)

      pub joins : {u : Walked} → Walks (Below (drop w.numbers (drop 1 l))) (drop w.numbers (drop 1 l)) (Some u)
          → Walks (tree_of depth path N l) l (Some (record { numbers = 1 + w.numbers + u.numbers; ends = w.ends + u.ends }))
      joins {u} g = (
        split (get_or l 0 0) f.0 g.0,
        opened ∙ rw (f.1, g.1) (ap (found (split (get_or l 0 0) f.0 g.0)) (drop-drop u.numbers w.numbers (drop 1 l) ∙ (drop-drop (w.numbers + u.numbers) 1 l ∙ ap (λ (x : ℕ). drop x l) further))),
        ap₂ (λ (x y : ℕ). x + y) f.2 g.2,
        omega (arith, f.3, g.3),
        omega (arith, h, f.4, g.4, length-drop 1 l, length-drop w.numbers (drop 1 l)),
      )
        where
          further : 1 + (w.numbers + u.numbers) ≡ 1 + w.numbers + u.numbers
          further = omega arith

-- What a walk told

pub walks-none : (p : Parsed) (l : List ℕ) {w : Option Walked} → w ≡ None → Walks p l w → p ≡ bad
walks-none p l e W = subst (Walks p l) e W

pub walks-tree : (p : Parsed) (l : List ℕ) {o : Option Walked} (w : Walked) → o ≡ Some w → Walks p l o → Walks p l (Some w)
walks-tree p l w e W = subst (Walks p l) e W

-- 64

pub told-tree : (p : Parsed) (l : List ℕ) (w : Walked) → Walks p l (Some w) → (size : ℕ) (lengths : List ℕ) (b : Bool) → b ≡ eqb (sum lengths) size
    → ((eqb w.numbers (length l) && eqb w.ends (length lengths)) && b) ≡ is_tree p size lengths
told-tree p l w (t, e, q, i, j) size lengths b a = rw e (by (drop n l) (length-drop n l))
  where
    n : ℕ
    n = w.numbers

    k : ℕ
    k = w.ends

    by : (rest : List ℕ) → length rest ≡ length l - n → ((eqb n (length l) && eqb k (length lengths)) && b) ≡ is_tree (found t rest) size lengths
    by [] z = let m : n ≡ length l = omega (arith, z, j) in rw (eq-eqb n (length l) m, q, a) refl
    by (x ∷ xs) z = rw (ne_eqb n (length l) (λ (m : n ≡ length l). omega (arith, z, m))) refl
