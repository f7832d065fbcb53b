-- Laws on one merge of the pairs with a list of literals, and on pairs as they stand in words.
-- Assumes nothing.
use mathlib.Core.Path.{◌≡◌, refl, sym, ap, ap₂, ◌∙◌}
use mathlib.Core.Bool.{Bool, true, false, cond, ◌&&◌, ◌||◌, or-false, and-true, and-false}
use mathlib.Core.List.Memᴰ
use mathlib.Core.List.{List, [], ◌∷◌, map}
use Prim.Native.Nat.{ℕ, zero, suc, ◌+◌, ◌<◌, ◌≤◌, min}
use native.Mathlib.Omega.{arith}
use lib.Dec.{leb, ltb}
use lib.IntN.{ℤ, pos}
use lib.ListN.{length, drop, get_or}
use lib.Seq.{drop-cons}
use Rattle.words.specs.Lists.{◌∈◌, any, filter}
use Rattle.words.specs.Literals.{variable, same_list, distinct}
use Rattle.words.proofs.Lists.{keep→, if-true, passed, failed, not-decides}
use Rattle.words.proofs.Literals.{same-decides, same_list-decides}
use Rattle.words.proofs.Places.{once-decides}
use Rattle.weights.specs.Weights.{Weighted, literals, sublists, pair_words, paired}
use Rattle.weights.specs.Completing.{completes, ends, starts_with}
use Rattle.weights.proofs.Sublists.{any_append, any-map, any_same, none_pass, is-sublist, in_whole}
use Rattle.weights.proofs.Completing.{ends_next, ends-empty}

-- what completes has literals of the list only
in-ends : (b k m : ℕ) (l : List Weighted) {t : List ℤ} {z : ℤ} → t ∈ ends b k m l → z ∈ t → z ∈ literals l
unfolding ends
in-ends b k m l {t} {z} i j =
    let r = Memᴰ.of_map literals (filter (completes b k m) (sublists l)) i in
    let n : z ∈ literals r.0 = rw (← r.2) at j in
    let y = Memᴰ.of_map (λ x. x.literal) r.0 n in
    rw (← y.2) (Memᴰ.map (λ x. x.literal) (in_whole y.1 (is-sublist l (keep→ (completes b k m) (sublists l) r.1).0)))

module _ (b k m : ℕ) (x : Weighted) (l : List Weighted) where
  -- what completes the chosen ones and x
  abbrev taken : List (List ℤ)
  taken = ends b (k + x.weight) (min m x.weight) l

  -- the list does not start with the next literal
  pub match-skip : (ls : List ℤ) → starts_with x.literal ls ≡ false → any (same_list ls) (ends b k m (x ∷ l)) ≡ any (same_list ls) (ends b k m l)
  match-skip ls e =
      ap (any (same_list ls)) (ends_next b k m x l)
      ∙ any_append (same_list ls) (map (λ t. x.literal ∷ t) taken) (ends b k m l)
      ∙ ap (λ (t : Bool). t || any (same_list ls) (ends b k m l))
      (any-map (λ t. x.literal ∷ t) (same_list ls) taken
      ∙ none_pass (λ t. same_list ls (x.literal ∷ t)) taken (λ t i. other ls e t))
    where
      other : (ls : List ℤ) → starts_with x.literal ls ≡ false → (t : List ℤ) → same_list ls (x.literal ∷ t) ≡ false
      other [] e t = refl
      other (y ∷ ls) e t = rw e

  -- it does, and no variable stands twice
  pub match-take : (ls : List ℤ) → starts_with x.literal ls ≡ true → distinct (literals (x ∷ l)) ≡ true
      → any (same_list ls) (ends b k m (x ∷ l)) ≡ any (same_list (drop 1 ls)) (ends b (k + x.weight) (min m x.weight) l)
  match-take [] e o = absurd ((passed false).from e)
  match-take (y ∷ ls) e o =
      ap (any (same_list (y ∷ ls))) (ends_next b k m x l)
      ∙ any_append (same_list (y ∷ ls)) (map (λ t. x.literal ∷ t) taken) (ends b k m l)
      ∙ ap₂ (λ (t u : Bool). t || u)
      (any-map (λ t. x.literal ∷ t) (same_list (y ∷ ls)) taken
      ∙ any_same (λ t. same_list (y ∷ ls) (x.literal ∷ t)) (same_list ls) taken (λ t i. rw e))
      (none_pass (same_list (y ∷ ls)) (ends b k m l) (λ t i. failed _ ((not-decides (same_list-decides (y ∷ ls) t)).from (λ q. once i q))))
      ∙ or-false _
    where
      once : {t : List ℤ} → t ∈ ends b k m l → ¬ (y ∷ ls ≡ t)
      once {t} i q =
          let j : y ∈ t = rw q at (Memᴰ.head {x = y} {xs = ls} refl) in
          let p : y ≡ x.literal = if-true (same-decides y x.literal) e in
          (if-true (once-decides x.literal (literals l)) o).0 (y, in-ends b k m l i j, ap variable (sym p))

-- nothing is left
pub match-empty : (b k m : ℕ) (ls : List ℤ) → any (same_list ls) (ends b k m []) ≡ (same_list ls [] && (leb b k && ltb k (b + m)))
match-empty b k m ls = ap (any (same_list ls)) (ends-empty b k m) ∙ go (leb b k && ltb k (b + m))
  where
    go : (t : Bool) → any (same_list ls) (cond t ([] ∷ []) []) ≡ (same_list ls [] && t)
    go true = or-false (same_list ls []) ∙ sym (and-true (same_list ls []))
    go false = sym (and-false (same_list ls []))

-- Pairs in words

-- the pairs that the words of pairs are
pub paired_words : (l : List Weighted) → paired (pair_words l) ≡ l
paired_words [] = refl
paired_words (x ∷ l) = ap (λ (k : List Weighted). x ∷ k) (paired_words l)

pub pair-on : (ws : List ℤ) (i : ℕ) → i + 1 < length ws
    → paired (drop i ws) ≡ record { literal = get_or ws i (pos 0); weight = variable (get_or ws (i + 1) (pos 0)) } ∷ paired (drop (i + 2) ws)
pair-on ws i h =
    let e : i + 1 ≡ suc i = omega arith in
    let f : i + 2 ≡ suc (suc i) = omega arith in
    rw (e, f, drop-cons ws i (pos 0) (omega arith), drop-cons ws (suc i) (pos 0) (omega arith))

pub pair-none : (ws : List ℤ) (i : ℕ) → length ws ≤ i + 1 → paired (drop i ws) ≡ []
pair-none [] zero h = refl
pair-none [] (suc i) h = refl
pair-none (z ∷ ws) zero h = go ws (omega arith)
  where
    go : (ws : List ℤ) → length ws ≤ 0 → paired (z ∷ ws) ≡ []
    go [] k = refl
    go (w ∷ ws) k = absurd (omega arith)
pair-none (z ∷ ws) (suc i) h = pair-none ws i (omega arith)
