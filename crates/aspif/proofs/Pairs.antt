-- Laws on the loops of the reader over pairs as they stand in words, each literal with its weight behind it.
-- Assumes nothing.
use mathlib.Core.Path.{◌≡◌, refl, ap, ◌∙◌}
use mathlib.Core.List.{List, [], ◌∷◌, ◌++◌, map-append, append-nil}
use Prim.Native.Nat.{ℕ, zero, suc, ◌+◌, ◌*◌, ◌<◌, ◌≤◌}
use native.Mathlib.Omega.{arith}
use native.Mathlib.Numerals.{add-one}
use lib.IntN.{ℤ, pos}
use lib.ListN.{length, set, take, drop, get_or, length-map}
use lib.Seq.{drop-length, take-suc, take_all, length-take-le}
use Rattle.words.proofs.Laws.{copy_more}
use Rattle.weights.specs.Weights.{Weighted, literals, paired, pair_words}
use Rattle.aspif.specs.Reading.{weight_in}
use Rattle.aspif.specs.Turns.{weighted}
use Rattle.aspif.proofs.PairWords.{length_pairs}

-- The literals of the pairs

pub literal-at : (ws : List ℤ) (i : ℕ) → 2 * i + 1 < length ws → get_or (literals (paired ws)) i (pos 0) ≡ get_or ws (2 * i) (pos 0)
literal-at [] i h = absurd (omega arith)
literal-at (z ∷ []) i h = absurd (omega arith)
literal-at (z ∷ w ∷ ws) zero h = refl
literal-at (z ∷ w ∷ ws) (suc i) h =
    let e : 2 * suc i ≡ suc (suc (2 * i)) = omega arith in
    rw e (literal-at ws i (omega arith))

pub literals-many : (ws : List ℤ) (n : ℕ) → length ws ≡ 2 * n → length (literals (paired ws)) ≡ n
literals-many [] n h = omega arith
literals-many (z ∷ []) n h = absurd (omega arith)
literals-many (z ∷ w ∷ ws) zero h = absurd (omega arith)
literals-many (z ∷ w ∷ ws) (suc n) h = ap suc (literals-many ws n (omega arith))

-- one more literal of a loop that copies them to the front of d
pub literals-more : (ws d : List ℤ) (i : ℕ) → length ws ≡ 2 * length d → i < length d
    → set (take i (literals (paired ws)) ++ drop i d) i (get_or ws (2 * i) (pos 0)) ≡ take (i + 1) (literals (paired ws)) ++ drop (i + 1) d
literals-more ws d i e h =
    rw (← literal-at ws i (omega arith)) (copy_more (literals (paired ws)) d i (pos 0) (omega (arith, literals-many ws (length d) e)) h)

-- all of them
pub literals-all : (ws d : List ℤ) (i : ℕ) → length ws ≡ 2 * length d → i ≡ length d
    → take i (literals (paired ws)) ++ drop i d ≡ literals (paired ws)
literals-all ws d i e h =
    let k = literals-many ws (length d) e in
    rw (h, drop-length d, append-nil, take_all (length d) (literals (paired ws)) (omega (arith, k)))

-- Literals with their weights in the pairs

pub weighted-words : (ws ls : List ℤ) → length (pair_words (weighted ws ls)) ≡ 2 * length ls
weighted-words ws ls = length_pairs (weighted ws ls) ∙ ap (λ (n : ℕ). 2 * n) (length-map ls _)

pub words_append : (k l : List Weighted) → pair_words (k ++ l) ≡ pair_words k ++ pair_words l
words_append [] l = refl
words_append (x ∷ k) l = ap (λ (t : List ℤ). x.literal ∷ pos x.weight ∷ t) (words_append k l)

words_more : (ws ls : List ℤ) (i : ℕ) → i < length ls
    → (let x = get_or ls i (pos 0) in pair_words (weighted ws (take (i + 1) ls)) ≡ pair_words (weighted ws (take i ls)) ++ (x ∷ pos (weight_in (paired ws) x) ∷ []))
words_more ws ls i h =
    let x = get_or ls i (pos 0) in
    rw (add-one, take-suc ls i (pos 0) h, map-append (λ y. with-weight y) (take i ls) (x ∷ []), words_append (weighted ws (take i ls)) (weighted ws (x ∷ [])))
  where
    with-weight : ℤ → Weighted
    with-weight y = record { literal = y; weight = weight_in (paired ws) y }

-- two words written behind a front that stands
set-two : (front d : List ℤ) (n : ℕ) (x w : ℤ) → length front ≡ n → suc n < length d
    → set (set (front ++ drop n d) n x) (suc n) w ≡ (front ++ (x ∷ w ∷ [])) ++ drop (suc (suc n)) d
set-two [] [] zero x w e h = absurd (omega arith)
set-two [] (y ∷ []) zero x w e h = absurd (omega arith)
set-two [] (y ∷ z ∷ d) zero x w e h = refl
set-two [] d (suc n) x w e h = absurd (omega arith)
set-two (u ∷ front) d zero x w e h = absurd (omega arith)
set-two (u ∷ front) [] (suc n) x w e h = absurd (omega arith)
set-two (u ∷ front) (y ∷ d) (suc n) x w e h = ap (λ (t : List ℤ). u ∷ t) (set-two front d n x w (omega arith) (omega arith))

-- one more pair of a loop that writes pairs to the front of d
pub pairs-more : (ws ls d : List ℤ) (i : ℕ) {x w : ℤ} → i < length ls → 2 * length ls ≤ length d
    → x ≡ get_or ls i (pos 0) → w ≡ pos (weight_in (paired ws) (get_or ls i (pos 0)))
    → set (set (pair_words (weighted ws (take i ls)) ++ drop (2 * i) d) (2 * i) x) (2 * i + 1) w
    ≡ pair_words (weighted ws (take (i + 1) ls)) ++ drop (2 * (i + 1)) d
pairs-more ws ls d i h k p q =
    let n = weighted-words ws (take i ls) ∙ ap (λ (m : ℕ). 2 * m) (length-take-le i ls (omega arith)) in
    let e : 2 * (i + 1) ≡ suc (suc (2 * i)) = omega arith in
    let f : 2 * i + 1 ≡ suc (2 * i) = omega arith in
    rw (e, f, p, q, words_more ws ls i h) (set-two (pair_words (weighted ws (take i ls))) d (2 * i) _ _ n (omega arith))
