-- The invariants of the loops over pairs, over plain variables: what one more pair makes of what is left.
-- Assumes nothing.
use mathlib.Core.Path.{◌≡◌, refl, sym, ap, ◌∙◌}
use mathlib.Core.Bool.{Bool, true, false, ◌&&◌}
use mathlib.Core.List.{List, [], ◌∷◌, ◌++◌}
use Prim.Native.Nat.{ℕ, zero, suc, ◌+◌, ◌<◌, ◌≤◌, min}
use native.Mathlib.Omega.{arith}
use lib.Dec.{leb, ltb, eqb}
use lib.IntN.{ℤ, pos}
use lib.ListN.{length, drop, get_or, drop_of_length-le, length-drop}
use lib.Seq.{drop-drop}
use Rattle.words.specs.Lists.{any}
use Rattle.words.specs.Literals.{variable, same_list, distinct}
use Rattle.words.proofs.Lists.{if-true, passed, same_test, eqb-decides}
use Rattle.words.proofs.Literals.{same_list-decides}
use Rattle.words.proofs.Places.{once-decides}
use Rattle.weights.specs.Weights.{Weighted, sum, literals, bodies, paired, most_sum}
use Rattle.weights.specs.Completing.{ends, no_least, starts_with}
use Rattle.weights.proofs.Completing.{bodies-ends}
use Rattle.weights.proofs.Matching.{match-skip, match-take, match-empty}

-- The words in pairs

pub pair-front : (p l : List ℤ) → length p ≡ 2
    → paired (p ++ l) ≡ record { literal = get_or p 0 (pos 0); weight = variable (get_or p 1 (pos 0)) } ∷ paired l
pair-front [] l h = absurd (omega arith)
pair-front (z ∷ []) l h = absurd (omega arith)
pair-front (z ∷ w ∷ []) l h = refl
pair-front (z ∷ w ∷ y ∷ p) l h = absurd (omega arith)

pub pair-short : (l : List ℤ) → length l < 2 → paired l ≡ []
pair-short [] h = refl
pair-short (z ∷ []) h = refl
pair-short (z ∷ w ∷ l) h = absurd (omega arith)

-- The merge of `is_body`

pub record Merge (pairs list rest : List ℤ) (bound total least j : ℕ) : Type 0 where
  pub inside : j ≤ length list
  pub room : total + sum (paired rest) ≤ most_sum
  pub small : least ≤ no_least
  pub once : distinct (literals (paired rest)) ≡ true
  pub stands : any (same_list list) (bodies bound (paired pairs)) ≡ any (same_list (drop j list)) (ends bound total least (paired rest))

starts-in : (x : ℤ) (l : List ℤ) (j : ℕ) → starts_with x (drop j l) ≡ true → j < length l
starts-in x [] zero e = absurd ((passed false).from e)
starts-in x [] (suc j) e = absurd ((passed false).from e)
starts-in x (y ∷ l) zero e = omega arith
starts-in x (y ∷ l) (suc j) e = omega (arith, starts-in x l j e)

module _ {pairs list : List ℤ} {bound : ℕ} where
  pub merge-start : sum (paired pairs) ≤ most_sum → distinct (literals (paired pairs)) ≡ true → Merge pairs list pairs bound 0 no_least 0
  merge-start h o =
      record {
        inside = omega arith;
        room = omega arith;
        small = omega arith;
        once = o;
        stands = ap (any (same_list list)) (bodies-ends bound (paired pairs) h);
      }

  module _ {rest : List ℤ} {total least j : ℕ} (m : Merge pairs list rest bound total least j) where
    -- the next pair, and the words behind it
    module _ (p l : List ℤ) (s : rest ≡ p ++ l) (h : length p ≡ 2) where
      abbrev pub x : Weighted
      x = record { literal = get_or p 0 (pos 0); weight = variable (get_or p 1 (pos 0)) }

      split : paired rest ≡ x ∷ paired l
      split = ap paired s ∙ pair-front p l h

      once-next : distinct (literals (x ∷ paired l)) ≡ true
      once-next = ap (λ (k : List Weighted). distinct (literals k)) (sym split) ∙ m.once

      once-rest : distinct (literals (paired l)) ≡ true
      once-rest = (if-true (once-decides x.literal (literals (paired l))) once-next).1

      pub room_next : total + x.weight + sum (paired l) ≤ most_sum
      room_next = omega (arith, ap sum split, m.room)

      stands-next : any (same_list list) (bodies bound (paired pairs)) ≡ any (same_list (drop j list)) (ends bound total least (x ∷ paired l))
      stands-next = m.stands ∙ ap (λ (k : List Weighted). any (same_list (drop j list)) (ends bound total least k)) split

      pub merge-skip : starts_with (get_or p 0 (pos 0)) (drop j list) ≡ false → Merge pairs list l bound total least j
      merge-skip e =
          record {
            inside = m.inside;
            room = omega (arith, room_next);
            small = m.small;
            once = once-rest;
            stands = stands-next ∙ match-skip bound total least x (paired l) (drop j list) e;
          }

      pub merge_in : starts_with (get_or p 0 (pos 0)) (drop j list) ≡ true → j < length list
      merge_in e = starts-in _ list j e

      pub merge-take : starts_with (get_or p 0 (pos 0)) (drop j list) ≡ true
          → Merge pairs list l bound (total + x.weight) (min least x.weight) (j + 1)
      merge-take e =
          record {
            inside = omega (arith, merge_in e);
            room = room_next;
            small = omega (arith, m.small);
            once = once-rest;
            stands = stands-next ∙ match-take bound total least x (paired l) (drop j list) e once-next
                ∙ ap (λ (k : List ℤ). any (same_list k) (ends bound (total + x.weight) (min least x.weight) (paired l))) (drop-drop 1 j list);
          }

    pub merge-end : length rest < 2
        → any (same_list list) (bodies bound (paired pairs)) ≡ (eqb j (length list) && (leb bound total && ltb total (bound + least)))
    merge-end h =
        m.stands ∙ ap (λ (k : List Weighted). any (same_list (drop j list)) (ends bound total least k)) (pair-short rest h)
        ∙ match-empty bound total least (drop j list) ∙ ap (λ (t : Bool). t && (leb bound total && ltb total (bound + least))) (done list j m.inside)
      where
        done : (l : List ℤ) (j : ℕ) → j ≤ length l → same_list (drop j l) [] ≡ eqb j (length l)
        done l j h =
            same_test (same_list-decides (drop j l) []) (eqb-decides j (length l))
            (λ e. omega (arith, ap length e, length-drop j l)) (λ e. drop_of_length-le l {i = j} (omega arith))
