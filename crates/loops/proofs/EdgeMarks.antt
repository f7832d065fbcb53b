-- The edges between places, marked one after another: what is marked and what is left make the whole.
-- Assumes nothing.
use mathlib.Core.Path.{◌≡◌, refl, sym, ◌∙◌, ap}
use mathlib.Core.Bool.{Bool, false, ◌&&◌, ◌||◌, or_assoc, or-false, and-or_distrib_left, and-or_distrib_right}
use mathlib.Core.List.{List}
use Prim.Native.Nat.{ℕ, suc, ◌+◌, ◌*◌, ◌≤◌, ◌<◌}
use native.Mathlib.Omega.{arith}
use native.Mathlib.Numerals.{add-one}
use borrow.Author.Tests.{ne_eqb}
use lib.Dec.{eqb}
use lib.IntN.{ℤ, pos}
use lib.ListN.{length, get_or, drop, replicate, length-replicate}
use lib.Seq.{drop-cons}
use Rattle.words.specs.Limits.{most_numbers}
use Rattle.words.specs.Lists.{any}
use Rattle.weights.specs.Weights.{paired}
use Rattle.weights.proofs.Matching.{pair-on}
use Rattle.aspif.specs.Rules.{InputRule}
use Rattle.marks.specs.Marks.{marked}
use Rattle.marks.proofs.Sets.{none-marked}
use Rattle.loops.specs.Edges.{cells, edge_at, More, any_marked, rule_edge, Edges}

pub record Filling (e : List ℕ) (left whole : ℕ → ℕ → Bool) : Type 0 where
  pub long : length e ≡ cells
  pub has : (i j : ℕ) → i < most_numbers → j < most_numbers → (edge_at e i j || left i j) ≡ whole i j

pub filling-start : (e : List ℕ) (left : ℕ → ℕ → Bool) → length e ≡ cells → Filling e left (λ i j. edge_at e i j || left i j)
filling-start e left h = record { long = h; has = λ i j g k. refl }

pub filling-none : (left : ℕ → ℕ → Bool) → Filling (replicate cells 0) left left
filling-none left = record {
  long = length-replicate {A = ℕ} cells 0;
  has = λ i j g k. rw (none-marked cells (i * most_numbers + j)) refl;
}

pub filling-on : {e after : List ℕ} {left whole f rest : ℕ → ℕ → Bool} → Filling e left whole → More f e after
    → ((i j : ℕ) → left i j ≡ (f i j || rest i j)) → Filling after rest whole
filling-on {e} {after} {left} {whole} {f} {rest} F M split = record {
  long = M.long;
  has = λ i j g k. rw (M.has i j g k, or_assoc (edge_at e i j) (f i j) (rest i j), ← split i j) (F.has i j g k);
}

-- nothing is left
module _ {e : List ℕ} {left whole : ℕ → ℕ → Bool} (F : Filling e left whole) (none : (i j : ℕ) → left i j ≡ false) where
  whole_is : (i j : ℕ) → i < most_numbers → j < most_numbers → edge_at e i j ≡ whole i j
  whole_is i j g k =
      sym (or-false (edge_at e i j)) ∙ ap (λ (b : Bool). edge_at e i j || b) (sym (none i j)) ∙ F.has i j g k

pub filling-end : {e before : List ℕ} {left f : ℕ → ℕ → Bool} → Filling e left (λ i j. edge_at before i j || f i j)
    → ((i j : ℕ) → left i j ≡ false) → More f before e
filling-end F none = record { long = F.long; has = whole_is F none }

pub filled : {e m : List ℕ} {ws : List InputRule} {left : ℕ → ℕ → Bool} → Filling e left (λ i j. any (rule_edge m i j) ws)
    → ((i j : ℕ) → left i j ≡ false) → Edges m ws e
filled F none = record { long = F.long; has = whole_is F none }

-- nothing more
pub more-none : (e : List ℕ) (f : ℕ → ℕ → Bool) → length e ≡ cells → ((i j : ℕ) → f i j ≡ false) → More f e e
more-none e f h none = filling-end (filling-start e f h) none

-- the same, in other words
pub more_same : {e after : List ℕ} {f g : ℕ → ℕ → Bool} → More f e after → ((i j : ℕ) → f i j ≡ g i j) → More g e after
more_same {e} M same = record {
  long = M.long;
  has = λ i j h k. M.has i j h k ∙ ap (λ (b : Bool). edge_at e i j || b) (same i j);
}

-- no place is 0, as they are counted from 1
pub no_place : {a : ℕ} (i : ℕ) → a ≤ 0 → eqb a (suc i) ≡ false
no_place {a} i h = ne_eqb a (suc i) (λ e. omega (arith, e))

-- One element off what is left

module _ {A : Type 0} (f : A → Bool) (l : List A) (k : ℕ) (d : A) (h : k < length l) where
  pub split-any : any f (drop k l) ≡ (f (get_or l k d) || any f (drop (k + 1) l))
  split-any = rw (drop-cons l k d h, add-one) refl

  pub heads-split : (p : Bool) → (p && any f (drop k l)) ≡ ((p && f (get_or l k d)) || (p && any f (drop (k + 1) l)))
  heads-split p = ap (λ (b : Bool). p && b) split-any ∙ and-or_distrib_left p (f (get_or l k d)) (any f (drop (k + 1) l))

  pub body-split : (p : Bool) → (any f (drop k l) && p) ≡ ((f (get_or l k d) && p) || (any f (drop (k + 1) l) && p))
  body-split p = ap (λ (b : Bool). b && p) split-any ∙ and-or_distrib_right (f (get_or l k d)) (any f (drop (k + 1) l)) p

-- one pair
module _ (f : ℤ → Bool) (m : List ℕ) (k : ℕ) (ws : List ℤ) (i : ℕ) (h : i + 1 < length ws) {next : ℕ} (e : next ≡ i + 2) where
  split-pair : any_marked f m k (paired (drop i ws))
      ≡ ((marked m k && f (get_or ws i (pos 0))) || any_marked f m (k + 1) (paired (drop next ws)))
  split-pair = rw (e, pair-on ws i h, add-one) refl

  pub pair-split : (p : Bool) → (any_marked f m k (paired (drop i ws)) && p)
      ≡ (((marked m k && f (get_or ws i (pos 0))) && p) || (any_marked f m (k + 1) (paired (drop next ws)) && p))
  pair-split p =
      ap (λ (b : Bool). b && p) split-pair
      ∙ and-or_distrib_right (marked m k && f (get_or ws i (pos 0))) (any_marked f m (k + 1) (paired (drop next ws))) p
