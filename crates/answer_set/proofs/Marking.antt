-- Laws on marks: literals and weights under them, what the rounds of `close` do to them, and the lowest number that passes a test.
-- And the rules of a table by where each begins, for the loops over them.
-- Assumes nothing.
use mathlib.Core.Path.{◌≡◌, refl, sym, ◌∙◌, ap}
use mathlib.Core.Bool.{Bool, true, false, cond}
use mathlib.Core.Logic.{inl, inr}
use mathlib.Core.Option.{none, some, some-injective, none-ne-some}
use mathlib.Core.List.{List, ◌∷◌, ◌++◌, map}
use Prim.Native.Nat.{ℕ, zero, suc, ◌+◌, ◌-◌, ◌<◌, ◌≤◌}
use native.Mathlib.Omega.{arith}
use lib.IntN.{ℤ, pos}
use lib.ListN.{length, get_or}
use Rattle.std.specs.Prelude.{Option as Found, None, Some}
use Rattle.std.specs.Option.{MatchOption, IsSomeAnd}
use Rattle.words.specs.Lists.{filter}
use Rattle.words.specs.Literals.{variable}
use Rattle.words.proofs.Places.{equal?}
use Rattle.weights.specs.Weights.{Weighted, sum, paired}
use Rattle.weights.proofs.Sublists.{sum-le, kept}
use Rattle.weights.proofs.Merging.{pair-front}
use Rattle.aspif.specs.Rules.{InputRule}
use Rattle.aspif.specs.Tables.{starts_at, rule_at, rules_at}
use Rattle.aspif.proofs.Cursors as Cursors
use Rattle.answer_set.specs.SetTest.{literal_holds, held_sum, round, rounds, lowest_from}
use Rattle.answer_set.specs.Private.{searched}
use Rattle.marks.specs.Marks.{Marking}

-- The rules of a table, one after another

pub rules_from_starts : (n : ℕ) (ws : List ℤ) → rules_at n ws ≡ map rule_at (starts_at n ws)
rules_from_starts n ws = Cursors.rules_from_starts n ws

-- The loop of `sum_held`

module _ (M S : ℕ → Bool) where
  pub held_on : (p l : List ℤ) → length p ≡ 2
      → held_sum M S (paired (p ++ l)) ≡ cond (literal_holds M S (get_or p 0 (pos 0))) (variable (get_or p 1 (pos 0))) 0 + held_sum M S (paired l)
  held_on p l h =
      ap (held_sum M S) (pair-front p l h)
      ∙ by (record { literal = get_or p 0 (pos 0); weight = variable (get_or p 1 (pos 0)) }) (literal_holds M S (get_or p 0 (pos 0)))
    where
      held : List Weighted
      held = filter (λ x. literal_holds M S x.literal) (paired l)

      by : (x : Weighted) (t : Bool) → sum (cond t (x ∷ held) held) ≡ cond t x.weight 0 + sum held
      by x true = refl
      by x false = omega arith

  -- no more than all the weights
  pub held_small : (l : List Weighted) → held_sum M S l ≤ sum l
  held_small l = sum-le (kept (λ x. literal_holds M S x.literal) l)

-- The loop of `close`

module _ (M : ℕ → Bool) where
  pub rounds-on : (n i : ℕ) (rs : List InputRule) (m : List ℕ) → i < n → rounds M (n - i) rs m ≡ rounds M (n - (i + 1)) rs (round M rs m)
  rounds-on n i rs m h =
      let e : n - i ≡ suc (n - (i + 1)) = omega arith in
      rw e

  -- a round that changes nothing is the last
  pub rounds-still : (n : ℕ) (rs : List InputRule) (m : List ℕ) → round M rs m ≡ m → rounds M n rs m ≡ m
  rounds-still zero rs m e = refl
  rounds-still (suc n) rs m e = rw e (rounds-still n rs m e)

  -- what is marked when no mark is new
  pub last-round : (n : ℕ) (rs : List InputRule) {m after whole : List ℕ} {new : Bool} → whole ≡ rounds M n rs m → Marking (round M rs m) m after new → new ≡ false → after ≡ whole
  last-round n rs {m} e g f = let s = g.still f in s ∙ sym (e ∙ rounds-still n rs m (sym g.marks ∙ s))

-- What is found: a number that passes, and nothing below it does
pub record Lowest (f : ℕ → Bool) (n v w : ℕ) : Type 0 where
  pub low : v ≤ w
  pub high : w < v + n
  pub here : f w ≡ true
  pub below : (u : ℕ) → v ≤ u → u < w → f u ≡ false

module _ (f : ℕ → Bool) where
  pub lowest-some : (n v w : ℕ) → lowest_from f n v ≡ some w → Lowest f n v w
  lowest-some zero v w e = absurd (none-ne-some w e)
  lowest-some (suc n) v w e = by (f v) refl e (lowest-some n (v + 1) w)
    where
      by : (b : Bool) → f v ≡ b → cond b (some v) (lowest_from f n (v + 1)) ≡ some w → (lowest_from f n (v + 1) ≡ some w → Lowest f n (v + 1) w) → Lowest f (suc n) v w
      by true p q g =
          let s = some-injective _ _ q in
          record { low = omega arith; high = omega arith; here = rw (← s) p; below = λ u h k. absurd (omega (arith, s)) }
      by false p q g =
          let r = g q in
          record {
            low = omega (arith, r.low);
            high = omega (arith, r.high);
            here = r.here;
            below = λ u h k. elim (equal? u v) [ inl e ↦ rw e p | inr d ↦ r.below u (omega (arith, d)) k ];
          }

  pub lowest-none : (n v : ℕ) → lowest_from f n v ≡ none → (u : ℕ) → v ≤ u → u < v + n → f u ≡ false
  lowest-none zero v e u h k = absurd (omega arith)
  lowest-none (suc n) v e u h k = by (f v) refl e (lowest-none n (v + 1))
    where
      by : (b : Bool) → f v ≡ b → cond b (some v) (lowest_from f n (v + 1)) ≡ none
          → (lowest_from f n (v + 1) ≡ none → (u : ℕ) → v + 1 ≤ u → u < v + 1 + n → f u ≡ false) → f u ≡ false
      by true p q g = absurd (none-ne-some v (sym q))
      by false p q g = elim (equal? u v) [ inl e ↦ rw e p | inr d ↦ g q u (omega (arith, d)) (omega arith) ]

  -- and the other way round
  pub none-lowest : (n v : ℕ) → ((u : ℕ) → v ≤ u → u < v + n → f u ≡ false) → lowest_from f n v ≡ none
  none-lowest zero v g = refl
  none-lowest (suc n) v g = rw (g v (omega arith) (omega arith)) (none-lowest n (v + 1) (λ u h k. g u (omega arith) (omega arith)))

  pub lowest-is : (n v w : ℕ) → Lowest f n v w → lowest_from f n v ≡ some w
  lowest-is zero v w r = absurd (omega (arith, r.low, r.high))
  lowest-is (suc n) v w r = elim (equal? w v) [
    | inl e ↦ rw (ap f (sym e) ∙ r.here) (ap some (sym e))
    | inr d ↦ rw (r.below v (omega arith) (omega (arith, r.low, d)))
        (lowest-is n (v + 1) w (record { low = omega (arith, r.low, d); high = omega (arith, r.high); here = r.here; below = λ u h k. r.below u (omega arith) k }))
  ]

-- the first that passes, as a search of the numbers below n finds it, and what is made of it
pub lowest-found : {P : ℕ → ℕ → Type 0} (f : ℕ → Bool) (n : ℕ) (r o : Found ℕ) → ((v w : ℕ) → P v w → w ≡ v)
    → MatchOption r ((u : ℕ) → 0 ≤ u → u < n → f u ≡ false) (λ v. (0 ≤ v) × (v < n) × (f v ≡ true) × ((u : ℕ) → 0 ≤ u → u < v → f u ≡ false))
    → MatchOption r (o ≡ None) (λ v. IsSomeAnd o (P v)) → o ≡ searched (lowest_from f n 0)
lowest-found f n None o same s m = m ∙ ap searched (sym (none-lowest f n 0 (λ u h k. s u h (omega arith))))
lowest-found f n (Some v) None same s m = absurd m
lowest-found f n (Some v) (Some w) same s m =
    ap Some (same v w m)
    ∙ ap searched (sym (lowest-is f n 0 v (record { low = s.0; high = omega (arith, s.1); here = s.2; below = s.3 })))
