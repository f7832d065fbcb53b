-- A line's numbers and the row that keeps the first of them: the questions to a rule line see no difference.
-- Assumes nothing.
use mathlib.Core.Path.{◌≡◌, refl, sym, ◌∙◌}
use mathlib.Core.Bool.{Bool, true, false, cond, ◌&&◌}
use mathlib.Core.List.{List, ◌++◌}
use Prim.Native.Nat.{ℕ, ◌+◌, ◌*◌, ◌≤◌, ◌<◌}
use native.Mathlib.Omega.{arith}
use native.Mathlib.Nat.{zero-add}
use borrow.Author.Tests.{leb-true, leb-false, eqb-true}
use lib.Dec.{eqb, leb}
use lib.IntN.{ℤ, pos}
use lib.ListN.{length, take, drop, get_or, replicate, length-replicate, get_or-replicate, length-drop, get_or-eq_default}
use lib.Seq.{sets, sets-eq, drop-append-le, take-append-le}
use Rattle.words.specs.Limits.{most_literals}
use Rattle.words.specs.Literals.{variable, same}
use Rattle.words.proofs.Laws.{sets-in, sets-after}
use Rattle.aspif.specs.Reading.{is_at, is_count_at, plain_shape, ranged, few_within, weighed_within, body_within, head_within, shape_within, is_last, rule_of}
use Rattle.aspif.specs.Turns.{row_size}
use Rattle.aspif.specs.declared.Kind.{Kind}
use Rattle.aspif.specs.declared.Kind.TheVariants.{Normal, Choice}
use Rattle.aspif.specs.declared.rules.Shape.{Shape}
use Rattle.aspif.specs.declared.rules.Shape.TheVariants.{Shaped, Weighed}
use Rattle.aspif.proofs.Counts.{count-small-at, Counted, shape-counted}
use Rattle.words.proofs.Lists.{and_left, and_right}
use Rattle.std.specs.Prelude.{Result, Ok, Err}
use Rattle.aspif.specs.declared.ProgramFault.TheVariants.{WrongCount}
use Rattle.aspif.specs.declared.ProgramFault.{ProgramFault}

-- the row that holds a line's numbers, as many as it has room for, and 0 after them
abbrev pub row_of : List ℤ → List ℤ
row_of zs = sets (replicate row_size (pos 0)) 0 zs

module _ (zs : List ℤ) where
  row_at : (i : ℕ) → i < row_size → get_or (row_of zs) i (pos 0) ≡ get_or zs i (pos 0)
  row_at i h = by (leb (length zs) i) refl
    where
      by : (t : Bool) → leb (length zs) i ≡ t → get_or (row_of zs) i (pos 0) ≡ get_or zs i (pos 0)
      by true e =
          let l = leb-true (length zs) i e in
          sets-after (pos 0) zs (replicate row_size (pos 0)) 0 i (omega arith) ∙ get_or-replicate row_size i (pos 0) (pos 0) h ∙ sym (get_or-eq_default zs (pos 0) l)
      by false e =
          let l = leb-false (length zs) i e in
          rw zero-add at (sets-in (pos 0) zs (replicate row_size (pos 0)) 0 i (omega (arith, length-replicate row_size (pos 0))) l)

by-agree : (t : Bool) (x y z : Result Shape ProgramFault) → (t ≡ true → x ≡ y) → cond t x z ≡ cond t y z
by-agree true x y z e = e refl
by-agree false x y z e = refl

-- two lists that agree where a row has room, and in what follows a place up to number n, give the same shape
module _ (most : ℕ) (a b : List ℤ) (n : ℕ) (f : (i : ℕ) → i < row_size → get_or a i (pos 0) ≡ get_or b i (pos 0))
    (g : (i m : ℕ) → i + m ≡ n → n ≤ row_size → take m (drop i a) ≡ take m (drop i b)) where
  at_agree : (i : ℕ) (z : ℤ) → i < row_size → is_at a n i z ≡ is_at b n i z
  at_agree i z h = rw (f i h)

  count-agree : (i : ℕ) → i < row_size → is_count_at a n i ≡ is_count_at b n i
  count-agree i h = rw (f i h)

  plain-agree : (k : Kind) (h : ℕ) → h ≤ most_literals → plain_shape a n k h ≡ plain_shape b n k h
  plain-agree k h l = rw (count-agree (4 + h) (omega arith), f (4 + h) (omega arith))

  -- the pairs are looked at only where all of the line stands in the row
  few-agree : (k : Kind) (h m : ℕ) → h ≤ most_literals → 6 + h + 2 * m ≡ n → n ≤ row_size → few_within most a k h m ≡ few_within most b k h m
  unfolding ranged
  few-agree k h m l e r = rw (f (4 + h) (omega arith), g (6 + h) (2 * m) e r)

  weighed-agree : (k : Kind) (h : ℕ) → h ≤ most_literals → weighed_within most a n k h ≡ weighed_within most b n k h
  weighed-agree k h l =
      rw (count-agree (5 + h) (omega arith), f (5 + h) (omega arith))
      (by-agree (is_count_at b n (5 + h) && eqb (6 + h + 2 * m) n) (few_within most a k h m) (few_within most b k h m) (Err WrongCount) on)
    where
      m : ℕ
      m = variable (get_or b (5 + h) (pos 0))

      on : (is_count_at b n (5 + h) && eqb (6 + h + 2 * m) n) ≡ true → few_within most a k h m ≡ few_within most b k h m
      on e =
          let p = eqb-true (6 + h + 2 * m) n (and_right (is_count_at b n (5 + h)) (eqb (6 + h + 2 * m) n) e) in
          let q = count-small-at b n (5 + h) (and_left (is_count_at b n (5 + h)) (eqb (6 + h + 2 * m) n) e) in
          few-agree k h m l p (omega (arith, p, q))

  body-agree : (k : Kind) (h : ℕ) → h ≤ most_literals → body_within most a n k h ≡ body_within most b n k h
  body-agree k h l = rw (at_agree (3 + h) (pos 0) (omega arith), at_agree (3 + h) (pos 1) (omega arith), plain-agree k h l, weighed-agree k h l)

  head-agree : (k : Kind) → head_within most a n k ≡ head_within most b n k
  head-agree k =
      let h = variable (get_or b 2 (pos 0)) in
      rw (count-agree 2 (omega arith), f 2 (omega arith))
      (by-agree (is_count_at b n 2 && leb (3 + h) n) (body_within most a n k h) (body_within most b n k h) (Err WrongCount)
      (λ e. body-agree k h (count-small-at b n 2 (and_left (is_count_at b n 2) (leb (3 + h) n) e))))

  pub shape-agree : shape_within most a n ≡ shape_within most b n
  unfolding shape_within
  shape-agree = rw (at_agree 0 (pos 1) (omega arith), at_agree 1 (pos 0) (omega arith), at_agree 1 (pos 1) (omega arith), head-agree Normal, head-agree Choice)

module _ (most : ℕ) (zs : List ℤ) where
  part-agree : (from m : ℕ) → from + m ≤ length zs → length zs ≤ row_size → take m (drop from (row_of zs)) ≡ take m (drop from zs)
  part-agree from m h l =
      let rest = drop (0 + length zs) (replicate row_size (pos 0)) in
      let e : row_of zs ≡ zs ++ rest = sets-eq zs (replicate row_size (pos 0)) 0 (omega (arith, length-replicate row_size (pos 0))) in
      rw (e, drop-append-le from zs rest (omega arith)) (take-append-le m (drop from zs) rest (omega (arith, length-drop from zs)))

  -- a line of numbers and its row make the same rule
  rule-agree : rule_of (row_of zs) (shape_within most (row_of zs) (length zs)) ≡ rule_of zs (shape_within most zs (length zs))
  rule-agree =
      rw (shape-agree most (row_of zs) zs (length zs) (row_at zs) (λ i m e l. part-agree i m (omega arith) l))
      (by (shape_within most zs (length zs)) (shape-counted most zs (length zs)))
    where
      by : (s : Result Shape ProgramFault) → Counted most zs (length zs) s → rule_of (row_of zs) s ≡ rule_of zs s
      by (Err k) w = refl
      by (Ok (Shaped k h b)) w = rw (part-agree 3 h (omega arith) (omega arith), part-agree (5 + h) b (omega arith) (omega arith))
      by (Ok (Weighed k h b)) w =
          rw (part-agree 3 h (omega arith) (omega arith), part-agree (6 + h) (2 * b) (omega arith) (omega arith), row_at zs (4 + h) (omega arith))

-- the same of a row and a count that are told to be the line's
module _ (zs row : List ℤ) (count : ℕ) (long : count ≡ length zs) (is : row ≡ row_of zs) where
  pub row_last : (eqb count 1 && same (get_or row 0 (pos 0)) (pos 0)) ≡ is_last zs
  row_last = rw (long, is, row_at zs 0 (omega arith))

  pub row-rule : (most : ℕ) → rule_of row (shape_within most row count) ≡ rule_of zs (shape_within most zs (length zs))
  row-rule most = rw (long, is) (rule-agree most zs)
