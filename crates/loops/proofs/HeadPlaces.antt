-- The places of a rule's heads, gathered one after another: what is in the row and what is left make the whole.
-- Assumes nothing.
use mathlib.Core.Path.{◌≡◌, refl, sym, ◌∙◌, ap, subst}
use mathlib.Core.Logic.{inl, inr}
use mathlib.Core.Bool.{Bool, false, ◌||◌, or-false}
use mathlib.Core.List.Memᴰ
use mathlib.Core.List.{List, [], ◌∷◌, ◌++◌}
use Prim.Native.Nat.{ℕ, ◌+◌, ◌≤◌, ◌<◌}
use native.Mathlib.Omega.{arith}
use native.Mathlib.Numerals.{add-one}
use lib.IntN.{ℤ}
use lib.ListN.{length, take, drop, set, length-set}
use lib.Seq.{take-suc-set}
use Rattle.words.specs.Limits.{most_numbers}
use Rattle.words.specs.Lists.{◌∈◌, any}
use Rattle.weights.proofs.Sublists.{any_append}
use Rattle.loops.specs.Edges.{is_place, LowPlaces, is_at, Puts, Gathered}
use Rattle.loops.proofs.EdgeMarks.{no_place}

-- no place
pub puts_none : (n place : ℕ) (row : List ℕ) → place ≡ 0 → Puts n place row row n
puts_none n place row e = record {
  long = refl;
  most = omega arith;
  low = λ f. f;
  has = λ i. sym (ap (λ (b : Bool). any (is_place i) (take n row) || b) (no_place i (omega (arith, e))) ∙ or-false (any (is_place i) (take n row)));
}

-- a place
module _ (n place : ℕ) (row : List ℕ) (room : n < length row) (high : place ≤ most_numbers) where
  front : take (n + 1) (set row n place) ≡ take n row ++ (place ∷ [])
  front = rw add-one (take-suc-set row n place room)

  pub puts_one : Puts n place row (set row n place) (n + 1)
  puts_one = record {
    long = length-set row n place;
    most = omega arith;
    low = λ f p i. elim (Memᴰ.append_cases (take n row) (subst (λ l. p ∈ l) front i)) [
      | inl m ↦ f p m
      | inr m ↦ rw (Memᴰ.eq_of_singleton m) high
    ];
    has = λ i. ap (any (is_place i)) front ∙ any_append (is_place i) (take n row) (place ∷ []) ∙ ap (λ (b : Bool). any (is_place i) (take n row) || b) (or-false (is_place i place));
  }

-- the places of the first k literals are in the row
pub record Gathering (m : List ℕ) (l : List ℤ) (row : List ℕ) (n k : ℕ) : Type 0 where
  pub most : n ≤ k
  pub low : LowPlaces (take n row)
  pub has : (i : ℕ) → (any (is_place i) (take n row) || any (is_at m i) (drop k l)) ≡ any (is_at m i) l

-- no literal has a place
pub gathered_none : {m row : List ℕ} {l : List ℤ} {n : ℕ} → Gathered m l row n → n ≡ 0 → (i : ℕ) → any (is_at m i) l ≡ false
gathered_none {m} {row} G e i = sym (G.has i) ∙ ap (λ (k : ℕ). any (is_place i) (take k row)) e
