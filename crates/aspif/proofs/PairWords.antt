-- Laws on the words of pairs, each literal with its weight behind it, on words that stand for a count or a weight, and on the pairs of
-- a line put in order. Assumes nothing.
use mathlib.Core.Path.{◌≡◌, refl, sym, ◌∙◌, ap, ap₂}
use mathlib.Core.Bool.{true, false, true≢false, ◌&&◌}
use mathlib.Core.List.Memᴰ
use mathlib.Core.List.{List, [], ◌∷◌, map}
use Prim.Native.Nat.{ℕ, ◌*◌, ◌≤◌}
use native.Mathlib.Omega.{arith}
use borrow.Author.Tests.{leb-true, le-leb}
use lib.Dec.{leb}
use lib.IntN.{ℤ, pos, negsuc}
use lib.Signed.{le_z}
use lib.ListN.{length, length-map}
use Rattle.words.specs.Lists.{◌∈◌}
use Rattle.words.specs.Literals.{variable, same, distinct, ascending}
use Rattle.words.proofs.Lists.{Decides, passed, failed, is_true, if-true, reworded, and-decides, not-decides, each-cons, by-test, and_left, and_right}
use Rattle.words.proofs.Literals.{same-decides}
use Rattle.words.proofs.Places.{once-decides}
use Rattle.words.proofs.Sorting.{length-ascending}
use Rattle.weights.specs.Weights.{Weighted, literals, paired, pair_words, most_weight}
use Rattle.aspif.specs.Rules.{is_weight}
use Rattle.aspif.specs.Reading.{all_weights, weight_in, with_weight, arranged}

-- Counts and weights

-- a word from 0 to `most`
pub up_to : (most : ℕ) (w : ℤ) → (le_z (pos 0) w && leb (variable w) most) ≡ true → (w ≡ pos (variable w)) × (variable w ≤ most)
up_to most (pos n) e = (refl, leb-true n most (and_right (le_z (pos 0) (pos n)) _ e))
up_to most (negsuc n) e = absurd (true≢false (sym e))

pub is-up-to : (most n : ℕ) → n ≤ most → (le_z (pos 0) (pos n) && leb n most) ≡ true
is-up-to most n h = rw (le-leb 0 n (omega arith), le-leb n most h)

pub weight-decides : (n : ℕ) → Decides (is_weight (pos n)) (n ≤ most_weight)
weight-decides n = record { to = λ t. (up_to most_weight (pos n) ((passed _).to t)).1; from = λ h. (passed _).from (is-up-to most_weight n h) }

-- Pairs in words

-- every weight is small
abbrev pub Light : List Weighted → Type 0
Light l = (x : Weighted) → x ∈ l → x.weight ≤ most_weight

pub light-decides : (l : List Weighted) → Decides (all_weights (pair_words l)) (Light l)
unfolding all_weights
light-decides [] = record { to = λ t x m. elim m [ ]; from = λ g. tt }
light-decides (x ∷ l) =
    reworded (λ p. each-cons p.0 p.1) (λ g. (g x (Memᴰ.head refl), λ y m. g y (Memᴰ.tail m)))
    (and-decides (weight-decides x.weight) (light-decides l))

pub words-paired : (ws : List ℤ) → all_weights ws ≡ true → pair_words (paired ws) ≡ ws
unfolding all_weights
words-paired [] e = refl
words-paired (z ∷ []) e = absurd (true≢false (sym e))
words-paired (z ∷ w ∷ ws) e =
    ap₂ (λ v l. z ∷ v ∷ l) (sym (up_to most_weight w (and_left (is_weight w) _ e)).0) (words-paired ws (and_right (is_weight w) _ e))

pub paired-light : (ws : List ℤ) → all_weights ws ≡ true → Light (paired ws)
paired-light ws e = if-true (light-decides (paired ws)) (ap all_weights (words-paired ws e) ∙ e)

pub length_pairs : (l : List Weighted) → length (pair_words l) ≡ 2 * length l
length_pairs [] = refl
length_pairs (x ∷ l) = omega (arith, length_pairs l)

pub length-paired : (ws : List ℤ) → all_weights ws ≡ true → 2 * length (paired ws) ≡ length ws
length-paired ws e = sym (length_pairs (paired ws)) ∙ ap length (words-paired ws e)

-- The pairs of a line in order

module _ (ps : List Weighted) where
  pub literals-with : (l : List ℤ) → literals (map (with_weight ps) l) ≡ l
  literals-with [] = refl
  literals-with (x ∷ l) = ap (λ (k : List ℤ). x ∷ k) (literals-with l)

  pub literals-arranged : literals (arranged ps) ≡ ascending (literals ps)
  unfolding arranged
  literals-arranged = literals-with (ascending (literals ps))

  pub length-arranged : length (arranged ps) ≡ length ps
  length-arranged =
      omega (arith, length-map (arranged ps) (λ x. x.literal), length-map ps (λ x. x.literal), ap length literals-arranged, length-ascending (literals ps))

weight-light : (ps : List Weighted) → Light ps → (z : ℤ) → weight_in ps z ≤ most_weight
weight-light [] h z = omega arith
weight-light (p ∷ ps) h z =
    by-test (λ n. n ≤ most_weight) (same p.literal z) (λ e. h p (Memᴰ.head refl)) (λ e. weight-light ps (λ x m. h x (Memᴰ.tail m)) z)

pub arranged-light : (ps : List Weighted) → Light ps → Light (arranged ps)
unfolding arranged
arranged-light ps h x m =
    let r = Memᴰ.of_map (λ z. record { literal = z; weight = weight_in ps z }) (ascending (literals ps)) m in
    rw (← r.2) (weight-light ps h r.0)

-- the weight of a literal that stands once
weight-own : (l : List Weighted) → distinct (literals l) ≡ true → (x : Weighted) → x ∈ l → weight_in l x.literal ≡ x.weight
weight-own [] d x m = elim m [ ]
weight-own (p ∷ l) d x (Memᴰ.head e) = rw (e, is_true (same-decides p.literal p.literal) refl)
weight-own (p ∷ l) d x (Memᴰ.tail m) =
    let o = if-true (once-decides p.literal (literals l)) d in
    let n = (not-decides (same-decides p.literal x.literal)).from (λ q. o.0 (x.literal, Memᴰ.map (λ y. y.literal) m, ap variable q)) in
    let e : same p.literal x.literal ≡ false = failed _ n in
    rw e (weight-own l o.1 x m)

-- literals that stand once, each with its own weight, are the pairs
pub own-weights : (l : List Weighted) → distinct (literals l) ≡ true → map (with_weight l) (literals l) ≡ l
own-weights l d = by l (weight-own l d)
  where
    by : (k : List Weighted) → ((x : Weighted) → x ∈ k → weight_in l x.literal ≡ x.weight)
        → map (λ x. record { literal = x; weight = weight_in l x }) (literals k) ≡ k
    by [] h = refl
    by (x ∷ k) h =
        ap₂ (λ n j. record { literal = x.literal; weight = n } ∷ j) (h x (Memᴰ.head refl)) (by k (λ y m. h y (Memᴰ.tail m)))

-- pairs whose literals ascend already stay as they are
pub arranged-same : (l : List Weighted) → distinct (literals l) ≡ true → ascending (literals l) ≡ literals l → arranged l ≡ l
unfolding arranged
arranged-same l d e = rw e (own-weights l d)
