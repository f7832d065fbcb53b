-- Sums with pairs more, one after another from the last. Assumes nothing.
use mathlib.Core.Path.{◌≡◌, refl, ap, ◌∙◌}
use mathlib.Core.Bool.{true}
use mathlib.Core.List.{List, [], ◌∷◌, ◌++◌, append-nil}
use Prim.Native.Nat.{ℕ, zero, suc, ◌+◌, ◌*◌, ◌-◌, ◌/◌, ◌≤◌, ◌<◌}
use native.Mathlib.Nat.{div-add-mod'}
use native.Mathlib.Omega.{arith}
use lib.IntN.{ℤ, pos}
use lib.ListN.{length, take, drop, get_or, set}
use Rattle.words.specs.Literals.{variable}
use Rattle.words.proofs.Lists.{and_left, and_right}
use Rattle.weights.specs.Weights.{Weighted, paired, most_weight}
use Rattle.weights.proofs.Matching.{pair-on, pair-none}
use Rattle.aspif.specs.Rules.{is_weight}
use Rattle.aspif.specs.Reading.{all_weights}
use Rattle.aspif.proofs.PairWords.{up_to}
use Rattle.sums.specs.Levels.{further, sums_of}
use Rattle.sums.proofs.Attained.{sums-ascend, sums-low}
use Rattle.totalizer.specs.Lists.{SumsUpTo, sums_over}
use Rattle.totalizer.proofs.Merging.{further-up-to}

-- the weight of pair m is one
pub weight-at : (ws : List ℤ) → all_weights ws ≡ true → (m : ℕ) → 2 * m + 1 < length ws → variable (get_or ws (2 * m + 1) (pos 0)) ≤ most_weight
unfolding all_weights
weight-at [] e m h = absurd (omega arith)
weight-at (z ∷ []) e m h = absurd (omega arith)
weight-at (z ∷ w ∷ ws) e zero h = (up_to most_weight w (and_left (is_weight w) (all_weights ws) e)).1
weight-at (z ∷ w ∷ ws) e (suc m) h =
    let n : 2 * suc m + 1 ≡ suc (suc (2 * m + 1)) = omega arith in
    rw n (weight-at ws (and_right (is_weight w) (all_weights ws) e) m (omega arith))

pub over-up-to : {b : ℕ} {us : List ℕ} → SumsUpTo b us → (l : List Weighted) → SumsUpTo b (sums_over b us l)
unfolding sums_over
over-up-to g [] = g
over-up-to g (x ∷ l) = further-up-to x.weight (over-up-to g l)

pub over-sums : (b : ℕ) (k l : List Weighted) → sums_over b (sums_of b k) l ≡ sums_of b (l ++ k)
unfolding sums_over sums_of
over-sums b k [] = refl
over-sums b k (x ∷ l) = ap (further b x.weight) (over-sums b k l)

-- where the loop stands
pub record Adding (ws : List ℤ) (b : ℕ) (us sums₀ spare₀ sums spare : List ℕ) (left count : ℕ) : Type 0 where
  pub within : count ≤ length sums
  pub is : take count sums ≡ sums_over b us (paired (drop (2 * left) ws))
  pub long : length sums ≡ length sums₀
  pub spare-long : length spare ≡ length spare₀

pub adding-start : (ws : List ℤ) (b n : ℕ) (sums spare : List ℕ) → n ≤ length sums → Adding ws b (take n sums) sums spare sums spare (length ws / 2) n
unfolding sums_over
adding-start ws b n sums spare h =
    let d = div-add-mod' (length ws) 2 in
    record {
      within = h;
      is = rw (pair-none ws (2 * (length ws / 2)) (omega arith));
      long = refl;
      spare-long = refl;
    }

pub adding-on : {ws : List ℤ} {b : ℕ} {us sums₀ spare₀ sums spare : List ℕ} {left count : ℕ} → Adding ws b us sums₀ spare₀ sums spare left count → 0 < left → left ≤ length ws / 2
    → {w r : ℕ} {sums' spare' : List ℕ} → w ≡ variable (get_or ws (2 * (left - 1) + 1) (pos 0)) → r ≤ length sums' → take r sums' ≡ further b w (take count sums)
    → length sums' ≡ length sums → length spare' ≡ length spare → Adding ws b us sums₀ spare₀ sums' spare' (left - 1) r
unfolding sums_over
adding-on {ws} {b} {us} {left = left} A h few {w} {r} {sums'} ew k e l s =
    let i = 2 * (left - 1) in
    let n : i + 2 ≡ 2 * left = omega arith in
    let d = div-add-mod' (length ws) 2 in
    let p = pair-on ws i (omega arith) in
    record {
      within = k;
      is = e ∙ rw (A.is, ew, p, n);
      long = l ∙ A.long;
      spare-long = s ∙ A.spare-long;
    }

pub adding-done : {ws : List ℤ} {b : ℕ} {us sums₀ spare₀ sums spare : List ℕ} {left count : ℕ} → Adding ws b us sums₀ spare₀ sums spare left count → left ≤ 0
    → take count sums ≡ sums_over b us (paired ws)
adding-done {left = left} A h = let e : left ≡ 0 = omega arith in rw e at A.is

-- The sums of pairs

pub sums-up-to : (b : ℕ) (l : List Weighted) → SumsUpTo b (sums_of b l)
sums-up-to b l = record { ascend = sums-ascend b l; low = λ u i. sums-low b l i }

pub first-sum : (b : ℕ) (sums : List ℕ) → 0 < length sums → take 1 (set sums 0 0) ≡ sums_of b []
unfolding sums_of
first-sum b [] h = absurd (omega arith)
first-sum b (u ∷ us) h = refl

-- from 0 alone
pub over_first : (b : ℕ) (sums : List ℕ) (l : List Weighted) → 0 < length sums → sums_over b (take 1 (set sums 0 0)) l ≡ sums_of b l
over_first b sums l h = ap (λ us. sums_over b us l) (first-sum b sums h) ∙ over-sums b [] l ∙ ap (sums_of b) (append-nil l)
