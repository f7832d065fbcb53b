-- The cost literals put in order: the same pairs, and the same list whatever the order they came in. Assumes nothing.
use mathlib.Core.Path.{◌≡◌, refl, sym, ◌∙◌, ap, subst}
use mathlib.Core.Bool.{Bool, true, false, cond}
use mathlib.Core.List.Memᴰ
use mathlib.Core.List.{List, [], ◌∷◌, ◌++◌, map, map_congr_left, append-nil}
use lib.Dec.{ltb}
use lib.IntN.{ℤ}
use Rattle.words.specs.Literals.{variable, same, distinct, rising, insert, insert_all, ascending}
use Rattle.words.proofs.Lists.{if-true}
use Rattle.words.proofs.Literals.{same-decides}
use Rattle.words.proofs.Places.{once-decides}
use Rattle.words.proofs.Sorting.{rising-ascending}
use Rattle.weights.specs.Weights.{literals}
use Rattle.weights.specs.Claims.{Reorder, nothing, first-stays, exchange, one_more}
use Rattle.weights.proofs.Reordered.{as_it_was, reorder-after, reorder-front, reorder-map, reorder-distinct, reorder-ascending}
use Rattle.aspif.specs.Reading.{weight_in, with_weight, arranged}
use Rattle.aspif.proofs.PairWords.{own-weights}
use Rattle.costs.specs.Costs.{Cost}
use Rattle.costs.specs.Claims.{RestrictionReordered}

-- Words in order are the same words

reorder-insert : (x : ℤ) (l : List ℤ) → Reorder (insert x l) (x ∷ l)
unfolding insert
reorder-insert x [] = as_it_was (x ∷ [])
reorder-insert x (y ∷ l) = by (ltb (variable x) (variable y)) (reorder-insert x l)
  where
    by : (t : Bool) → Reorder (insert x l) (x ∷ l) → Reorder (cond t (x ∷ y ∷ l) (y ∷ insert x l)) (x ∷ y ∷ l)
    by true r = as_it_was (x ∷ y ∷ l)
    by false r = one_more (first-stays r) exchange

reorder-all : (acc l : List ℤ) → Reorder (insert_all acc l) (l ++ acc)
unfolding insert_all
reorder-all acc [] = as_it_was acc
reorder-all acc (x ∷ l) = one_more (reorder-all (insert x acc) l) (one_more (reorder-after l (reorder-insert x acc)) (reorder-front x l acc))

in_order : (l : List ℤ) → Reorder (ascending l) l
in_order l = subst (Reorder (ascending l)) (append-nil l) (reorder-all [] l)

-- Weights

-- the pairs in order are the same pairs
pub arranged-reorder : (ks : List Cost) → distinct (literals ks) ≡ true → Reorder (arranged ks) ks
unfolding arranged
arranged-reorder ks d = subst (Reorder (arranged ks)) (own-weights ks d) (reorder-map (with_weight ks) (in_order (literals ks)))

pub arranged-rising : (ks : List Cost) → distinct (literals ks) ≡ true → rising (ascending (literals ks)) ≡ true
arranged-rising ks d = rising-ascending (literals ks) ∙ d

-- Pairs in another order

weights-reordered : {ks js : List Cost} → distinct (literals ks) ≡ true → Reorder ks js → (x : ℤ) → weight_in ks x ≡ weight_in js x
weights-reordered d nothing x = refl
weights-reordered d (first-stays {x = k} {l = ks} {m = js} r) x =
    ap (λ n. cond (same k.literal x) k.weight n) (weights-reordered (if-true (once-decides k.literal (literals ks)) d).1 r x)
weights-reordered d (exchange {x = k} {y = j} {l = ks}) x = by (same k.literal x) refl (same j.literal x) refl
  where
    differ : ¬ (variable k.literal ≡ variable j.literal)
    differ e = (if-true (once-decides k.literal (literals (j ∷ ks))) d).0 (j.literal, Memᴰ.head refl, e)

    by : (a : Bool) → same k.literal x ≡ a → (b : Bool) → same j.literal x ≡ b
        → cond a k.weight (cond b j.weight (weight_in ks x)) ≡ cond b j.weight (cond a k.weight (weight_in ks x))
    by true p true q =
        absurd (differ (ap variable (if-true (same-decides k.literal x) p ∙ sym (if-true (same-decides j.literal x) q))))
    by true p false q = refl
    by false p b q = refl
weights-reordered d (one_more {l = ks} {m = is} r q) x =
    weights-reordered d r x ∙ weights-reordered (sym (reorder-distinct (reorder-map (λ k. k.literal) r)) ∙ d) q x

pub arranged-reordered : (ks js : List Cost) → distinct (literals ks) ≡ true → Reorder ks js → arranged ks ≡ arranged js
unfolding arranged
arranged-reordered ks js d r =
    map_congr_left {l = ascending (literals ks)} (λ x i. ap (λ n. record { literal = x; weight = n }) (weights-reordered d r x))
    ∙ ap (map (with_weight js)) (sym (reorder-ascending (arranged-rising ks d) (one_more (in_order (literals ks)) (reorder-map (λ k. k.literal) r))))

pub restriction-reordered : RestrictionReordered
restriction-reordered ks js C d r = rw (arranged-reordered ks js d r)
