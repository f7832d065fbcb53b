-- Laws on a rule line's counts and shape.
-- Assumes nothing.
use mathlib.Core.Path.{◌≡◌}
use mathlib.Core.Bool.{Bool, true, cond, ◌&&◌}
use mathlib.Core.List.{List}
use Prim.Native.Nat.{ℕ, ◌+◌, ◌*◌, ◌≤◌}
use borrow.Author.Tests.{leb-true, eqb-true}
use lib.Dec.{eqb, ltb, leb}
use lib.IntN.{ℤ, pos}
use lib.Signed.{le_z}
use lib.ListN.{get_or}
use Rattle.words.specs.Limits.{most_literals}
use Rattle.words.specs.Literals.{variable}
use Rattle.aspif.specs.Rules.{suits, is_count}
use Rattle.words.proofs.Lists.{and_left, and_right, by-test}
use Rattle.aspif.specs.Reading.{is_at, is_count_at, suited, plain_shape, ranged, few_within, weighed_within, body_within, head_within, shape_within}
use Rattle.aspif.specs.declared.Kind.{Kind}
use Rattle.aspif.specs.declared.Kind.TheVariants.{Normal, Choice}
use Rattle.aspif.specs.declared.rules.Shape.{Shape}
use Rattle.aspif.specs.declared.rules.Shape.TheVariants.{Shaped, Weighed}
use Rattle.std.specs.Prelude.{Result, Ok, Err}
use Rattle.aspif.specs.declared.ProgramFault.TheVariants.{WrongKind, WrongCount, UnsuitedHeads, WeightOutOfRange, TooManyWeights}
use Rattle.aspif.specs.declared.ProgramFault.{ProgramFault}

-- a count is at most 64
pub count_small : (w : ℤ) → is_count w ≡ true → variable w ≤ most_literals
count_small w e = leb-true (variable w) most_literals (and_right (le_z (pos 0) w) _ e)

pub count-small-at : (zs : List ℤ) (count i : ℕ) → is_count_at zs count i ≡ true → variable (get_or zs i (pos 0)) ≤ most_literals
count-small-at zs count i e = count_small (get_or zs i (pos 0)) (and_right (ltb i count) _ e)

-- what a rule line's shape says of its counts, and of a bound and weights
abbrev pub Counted : (most : ℕ) → List ℤ → ℕ → (Result Shape ProgramFault) → Type 0
Counted most zs n (Err k) = Unit {0}
Counted most zs n (Ok (Shaped k h b)) = (h ≤ most_literals) × (b ≤ most_literals) × (5 + h + b ≡ n)
Counted most zs n (Ok (Weighed k h b)) = (h ≤ most_literals) × (b ≤ most) × (6 + h + 2 * b ≡ n) × (ranged zs h b ≡ true) × (b ≤ most_literals)

module _ (most : ℕ) (zs : List ℤ) (n : ℕ) where
  by : (t : Bool) (x y : Result Shape ProgramFault) → (t ≡ true → Counted most zs n x) → Counted most zs n y → Counted most zs n (cond t x y)
  by t x y f g = by-test (Counted most zs n) t f (λ e. g)

  suited-counted : (k : Kind) (h : ℕ) (x : Result Shape ProgramFault) → Counted most zs n x → Counted most zs n (suited k h x)
  suited-counted k h x c = by (suits k h) x (Err UnsuitedHeads) (λ t. c) tt

  plain-counted : (k : Kind) (h : ℕ) → h ≤ most_literals → Counted most zs n (plain_shape zs n k h)
  plain-counted k h p =
      let b = variable (get_or zs (4 + h) (pos 0)) in
      by (is_count_at zs n (4 + h) && eqb (5 + h + b) n) (suited k h (Ok (Shaped k h b))) (Err WrongCount)
      (λ u.
      suited-counted k h (Ok (Shaped k h b)) (
        p,
        count-small-at zs n (4 + h) (and_left (is_count_at zs n (4 + h)) (eqb (5 + h + b) n) u),
        eqb-true (5 + h + b) n (and_right (is_count_at zs n (4 + h)) (eqb (5 + h + b) n) u),
      ))
      tt

  few-counted : (k : Kind) (h b : ℕ) → h ≤ most_literals → b ≤ most_literals → 6 + h + 2 * b ≡ n → Counted most zs n (few_within most zs k h b)
  few-counted k h b p c e =
      by (ranged zs h b) (cond (leb b most) (suited k h (Ok (Weighed k h b))) (Err TooManyWeights)) (Err WeightOutOfRange)
      (λ r.
      by (leb b most) (suited k h (Ok (Weighed k h b))) (Err TooManyWeights)
      (λ l. suited-counted k h (Ok (Weighed k h b)) (p, leb-true b most l, e, r, c)) tt)
      tt

  weighed-counted : (k : Kind) (h : ℕ) → h ≤ most_literals → Counted most zs n (weighed_within most zs n k h)
  weighed-counted k h p =
      let b = variable (get_or zs (5 + h) (pos 0)) in
      by (is_count_at zs n (5 + h) && eqb (6 + h + 2 * b) n) (few_within most zs k h b) (Err WrongCount)
      (λ u. few-counted k h b p (count-small-at zs n (5 + h) (and_left (is_count_at zs n (5 + h)) (eqb (6 + h + 2 * b) n) u)) (eqb-true (6 + h + 2 * b) n (and_right (is_count_at zs n (5 + h)) (eqb (6 + h + 2 * b) n) u))) tt

  body-counted : (k : Kind) (h : ℕ) → h ≤ most_literals → Counted most zs n (body_within most zs n k h)
  body-counted k h p =
      by (is_at zs n (3 + h) (pos 0)) (plain_shape zs n k h) _ (λ t. plain-counted k h p)
      (by (is_at zs n (3 + h) (pos 1)) (weighed_within most zs n k h) (Err WrongKind) (λ t. weighed-counted k h p) tt)

  head-counted : (k : Kind) → Counted most zs n (head_within most zs n k)
  head-counted k =
      let h = variable (get_or zs 2 (pos 0)) in
      by (is_count_at zs n 2 && leb (3 + h) n) (body_within most zs n k h) (Err WrongCount)
      (λ t. body-counted k h (count-small-at zs n 2 (and_left (is_count_at zs n 2) (leb (3 + h) n) t))) tt

  pub shape-counted : Counted most zs n (shape_within most zs n)
  unfolding shape_within
  shape-counted =
      by (is_at zs n 0 (pos 1)) _ (Err WrongKind)
      (λ t.
      by (is_at zs n 1 (pos 0)) (head_within most zs n Normal) _ (λ u. head-counted Normal)
      (by (is_at zs n 1 (pos 1)) (head_within most zs n Choice) (Err WrongKind) (λ u. head-counted Choice) tt))
      tt
