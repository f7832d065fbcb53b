-- Laws on a rule line's row: its heads and body sorted in place, and written behind their counts.
-- Assumes nothing.
use mathlib.Core.Path.{◌≡◌, refl, sym, ◌∙◌, ap, ap₂}
use mathlib.Core.Bool.{true, false, ◌&&◌}
use mathlib.Core.List.{List, [], ◌∷◌, ◌++◌, append_assoc}
use Prim.Native.Nat.{ℕ, ◌+◌, ◌*◌, ◌-◌, ◌≤◌, ◌<◌}
use native.Mathlib.Omega.{arith}
use borrow.Author.Tests.{lt-ltb, le-ltb, le-leb, lt-leb}
use lib.IntN.{ℤ, pos}
use lib.ListN.{length, take, drop, set, get_or, length-append, length-drop}
use lib.Seq.{length-take-le, drop-drop, drop-cons, set_at, get_or-drop}
use borrow.Rule.Slice.PartMut.{put_mid}
use Rattle.words.specs.Literals.{ascending}
use Rattle.words.proofs.Sorting.{length-ascending}
use Rattle.words.proofs.Lists.{and_left, and_right}
use Rattle.words.proofs.Parts.{mid-put, after-put, before-put, length-put, mid-front, put_next}
use Rattle.aspif.specs.Rules.{InputRule, is_weight, rule_words, rule_top}
use Rattle.weights.specs.Weights.{literals, paired, pair_words, most_weight}
use Rattle.words.specs.Limits.{most_rules}
use Rattle.aspif.specs.Reading.{all_weights, ranged, heads_good, body_good, arranged, fails, reads, rule_of, Turn, room}
use Rattle.aspif.specs.Turns.{row_heads, row_body, row_bound, row_pairs, row_rule, weighted, row_weighed, Sorted, TurnTaken}
use Rattle.aspif.specs.declared.Kind.{Kind}
use Rattle.aspif.specs.declared.rules.Shape.TheVariants.{Shaped, Weighed}
use Rattle.aspif.proofs.PairWords.{up_to}
use Rattle.aspif.proofs.Pairs.{literals-many, weighted-words}
use Rattle.std.specs.Prelude.{Ok, Err, Some}
use Rattle.aspif.specs.declared.ProgramFault.TheVariants.{WrongLiterals, TooManyRules, TableFull}

pub heads-long : (row : List ℤ) (h : ℕ) → 3 + h ≤ length row → length (row_heads row h) ≡ h
heads-long row h fits = length-take-le h (drop 3 row) (omega (arith, length-drop 3 row))

module _ (row : List ℤ) (h b : ℕ) (fits : 5 + h + b ≤ length row) where
  pub body-long : length (row_body row h b) ≡ b
  body-long = length-take-le b (drop (5 + h) row) (omega (arith, length-drop (5 + h) row))

  module _ (hs : List ℤ) (eh : length hs ≡ h) where
    abbrev row₁ : List ℤ
    row₁ = put_mid 3 h row hs

    long₁ : length row₁ ≡ length row
    long₁ = length-put 3 h row hs (omega arith) eh

    -- putting the heads in order leaves the body
    pub body_kept : row_body row₁ h b ≡ row_body row h b
    body_kept = rw (after-put 3 h row hs (omega arith) eh (5 + h) (omega arith))

    module _ (ls : List ℤ) (el : length ls ≡ b) where
      abbrev row₂ : List ℤ
      row₂ = put_mid (5 + h) b row₁ ls

      pub body-sorted : row_body row₂ h b ≡ ls
      body-sorted = mid-put (5 + h) b row₁ ls (omega (arith, long₁)) el

      -- and putting the body in order leaves the heads
      before-body : take (5 + h) row₂ ≡ take (5 + h) row₁
      before-body = before-put (5 + h) b row₁ ls (omega (arith, long₁)) el (5 + h) (omega arith)

      pub heads-sorted : row_heads row₂ h ≡ hs
      heads-sorted =
          sym (mid-front 3 h (5 + h) row₂ (omega arith)) ∙ rw before-body (mid-front 3 h (5 + h) row₁ (omega arith))
          ∙ mid-put 3 h row hs (omega arith) eh

      pub long₂ : length row₂ ≡ length row
      long₂ = length-put (5 + h) b row₁ ls (omega (arith, long₁)) el ∙ long₁

-- a bound and weights that are in their range
module _ (row : List ℤ) (h b : ℕ) (e : ranged row h b ≡ true) where
  pub ranged-bound : get_or row (4 + h) (pos 0) ≡ pos (row_bound row h)
  unfolding ranged
  ranged-bound = let w = get_or row (4 + h) (pos 0) in (up_to most_weight w (and_left (is_weight w) _ e)).0

  pub ranged-weights : all_weights (row_pairs row h b) ≡ true
  unfolding ranged
  ranged-weights = and_right (is_weight (get_or row (4 + h) (pos 0))) _ e

-- counts, heads and body, each written behind the one before
pub rule-written : (counts hs ls free free₁ u v : List ℤ) (n a : ℕ) → length counts ≡ n → free₁ ≡ counts ++ drop n free
    → u ≡ hs ++ drop (length hs) (take (length free₁ - n) (drop n free₁)) → a ≡ n + length hs
    → (let free₂ = put_mid n (length free₁ - n) free₁ u in
    v ≡ ls ++ drop (length ls) (take (length free₂ - a) (drop a free₂))
    → put_mid a (length free₂ - a) free₂ v ≡ (counts ++ (hs ++ ls)) ++ drop (n + length hs + length ls) free)
rule-written counts hs ls free free₁ u v n a size e eu ea ev =
    let e₂ = put_next counts (drop n free) hs free₁ u n size e eu ∙ sym (append_assoc counts hs (drop (length hs) (drop n free))) in
    let s₂ : length (counts ++ hs) ≡ a = omega (arith, length-append counts hs) in
    put_next (counts ++ hs) (drop (length hs) (drop n free)) ls (put_mid n (length free₁ - n) free₁ u) v a s₂ e₂ ev
    ∙ simp (append_assoc, drop-drop)

-- four words at the front
pub counts-written : (free : List ℤ) (x y z w : ℤ) {a b c d : ℤ} → 4 ≤ length free → a ≡ x → b ≡ y → c ≡ z → d ≡ w
    → set (set (set (set free 0 a) 1 b) 2 c) 3 d ≡ (x ∷ y ∷ z ∷ w ∷ []) ++ drop 4 free
counts-written [] x y z w h p q r s = absurd (omega arith)
counts-written (t ∷ []) x y z w h p q r s = absurd (omega arith)
counts-written (t ∷ u ∷ []) x y z w h p q r s = absurd (omega arith)
counts-written (t ∷ u ∷ v ∷ []) x y z w h p q r s = absurd (omega arith)
counts-written (t ∷ u ∷ v ∷ o ∷ free) x y z w h p q r s = rw (p, q, r, s)

-- and a fifth behind them
pub bound-written : (counts free free₁ : List ℤ) (x : ℤ) {a : ℤ} → length counts ≡ 4 → 5 ≤ length free → free₁ ≡ counts ++ drop 4 free → a ≡ x
    → set free₁ 4 a ≡ (counts ++ (x ∷ [])) ++ drop 5 free
bound-written counts free free₁ x size h e p =
    rw (e, p, drop-cons free 4 (pos 0) (omega arith), set_at counts (get_or free 4 (pos 0)) (drop 5 free) x 4 size)
    (sym (append_assoc counts (x ∷ []) (drop 5 free)))

-- the words of the rule that stands in a row
pub row-rule-size : (row : List ℤ) (k : Kind) (h b : ℕ) → 5 + h + b ≤ length row → length (rule_words (row_rule row k h b)) ≡ 4 + h + b
row-rule-size row k h b fits = omega (arith, length-append (row_heads row h) (row_body row h b), heads-long row h (omega arith), body-long row h b fits)

pub row-weighed-size : (row ls : List ℤ) (k : Kind) (h : ℕ) → 3 + h ≤ length row → length (rule_words (row_weighed row ls k h)) ≡ 5 + h + 2 * length ls
row-weighed-size row ls k h fits =
    let ps = row_pairs row h (length ls) in
    omega (arith, length-append (row_heads row h) (pair_words (weighted ps ls)), heads-long row h fits, weighted-words ps ls)

-- questions 9 and 10 of a rule of so many words
module _ (r : InputRule) (size : ℕ) (is : length (rule_words r) ≡ size) (free : List ℤ) (rules next : ℕ) where
  abbrev turn : Turn
  turn = room rules (length free) (reads r) next

  pub turn-full : most_rules ≤ rules → TurnTaken turn free free (Err TooManyRules)
  turn-full p = rw (le-ltb rules most_rules p) (record { told = refl; words = refl })

  pub turn-short : rules < most_rules → length free < size → TurnTaken turn free free (Err TableFull)
  turn-short p q =
      let e = lt-leb (length (rule_words r)) (length free) (omega (arith, is)) in
      rw (lt-ltb rules most_rules p, e) (record { told = refl; words = refl })

  pub turn-adds : rules < most_rules → size ≤ length free → (after : List ℤ) (m : ℕ) → after ≡ rule_words r ++ drop size free → m ≡ rule_top r
      → TurnTaken turn free after (Ok (Some (record { next = next; words = size; top = m })))
  turn-adds p q after m w t =
      let e = le-leb (length (rule_words r)) (length free) (omega (arith, is)) in
      rw (lt-ltb rules most_rules p, e)
      (record { told = sym (ap₂ (λ x y. Ok (Some (record { next = next; words = x; top = y }))) is (sym t)); words = w ∙ sym (ap (λ n. rule_words r ++ drop n free) is) })

module _ (before after : List ℤ) (k : Kind) (h b : ℕ) where
  -- question 8 of a row, by what sorting it told
  pub sorted-reads : Sorted before after h b true → rule_of before (Ok (Shaped k h b)) ≡ reads (row_rule after k h b)
  sorted-reads S = rw (sym S.good, S.in_heads, S.in_body)

  pub sorted-fails : Sorted before after h b false → rule_of before (Ok (Shaped k h b)) ≡ fails WrongLiterals
  sorted-fails S = rw (sym S.good)

-- Question 8 of a line with a weight body: its heads sorted in place, its literals beside it

pub weighed-fails : (row : List ℤ) (k : Kind) (h b : ℕ) → (heads_good (row_heads row h) && body_good (literals (paired (row_pairs row h b)))) ≡ false
    → rule_of row (Ok (Weighed k h b)) ≡ fails WrongLiterals
weighed-fails row k h b e = rw e

module _ (row : List ℤ) (k : Kind) (h b : ℕ) (fits : 6 + h + 2 * b ≤ length row) (hs ls : List ℤ)
    (eh : hs ≡ ascending (row_heads row h)) (el : ls ≡ ascending (literals (paired (row_pairs row h b)))) where
  abbrev after : List ℤ
  after = put_mid 3 h row hs

  heads-many : length hs ≡ h
  heads-many = rw eh (length-ascending (row_heads row h) ∙ heads-long row h (omega arith))

  pub literals-long : length ls ≡ b
  literals-long =
      let n = length-take-le (2 * b) (drop (6 + h) row) (omega (arith, length-drop (6 + h) row)) in
      rw el (length-ascending (literals (paired (row_pairs row h b))) ∙ literals-many (row_pairs row h b) b n)

  pub row-long : length after ≡ length row
  row-long = length-put 3 h row hs (omega arith) heads-many

  bound-kept : get_or after (4 + h) (pos 0) ≡ get_or row (4 + h) (pos 0)
  bound-kept =
      let e : 4 + h ≡ 3 + h + 1 = omega arith in
      let k = after-put 3 h row hs (omega arith) heads-many (3 + h) (omega arith) in
      rw e (sym (get_or-drop (3 + h) after 1 (pos 0)) ∙ ap (λ l. get_or l 1 (pos 0)) k ∙ get_or-drop (3 + h) row 1 (pos 0))

  pairs-kept : row_pairs after h b ≡ row_pairs row h b
  pairs-kept = rw (after-put 3 h row hs (omega arith) heads-many (6 + h) (omega arith))

  pub ranged-kept : ranged row h b ≡ true → ranged after h (length ls) ≡ true
  unfolding ranged
  ranged-kept e = rw (literals-long, bound-kept, pairs-kept) e

  pub weighed-reads : heads_good (row_heads row h) ≡ true → body_good (literals (paired (row_pairs row h b))) ≡ true
      → rule_of row (Ok (Weighed k h b)) ≡ reads (row_weighed after ls k h)
  unfolding arranged
  weighed-reads p q = rw (p, q, literals-long, bound-kept, pairs-kept, mid-put 3 h row hs (omega arith) heads-many, eh, el)
