-- The restriction in the words of a table: its words, and a table that holds the program with it. Assumes nothing.
use mathlib.Core.Path.{◌≡◌, refl, sym, ◌∙◌, ap, ap₂, subst}
use mathlib.Core.Bool.{Bool, true, not, ◌&&◌}
use mathlib.Core.List.{List, [], ◌∷◌, ◌++◌, append_assoc}
use Prim.Native.Nat.{ℕ, ◌+◌, ◌*◌, ◌-◌, ◌≤◌}
use native.Mathlib.Omega.{arith}
use borrow.Author.Tests.{le-ltb, le-leb}
use borrow.Rule.Slice.PartMut.{put_mid}
use lib.Dec.{T, leb}
use lib.IntN.{ℤ, pos}
use lib.ListN.{length, take, drop, replicate, length-append, length-map, length-replicate}
use lib.Seq.{drop-drop, take_at}
use Rattle.words.specs.Limits.{largest}
use Rattle.words.specs.Lists.{◌∈◌, all}
use Rattle.words.specs.Literals.{variable, distinct, rising, ascending}
use Rattle.words.proofs.Lists.{if-true, failed, not-decides, and-decides, leb-decides, all-decides, and_left, and_right}
use Rattle.words.proofs.Literals.{has-decides, ascending→}
use Rattle.words.proofs.Parts.{put_next}
use Rattle.words.proofs.Sorting.{length-ascending, rising-ascending}
use Rattle.words.proofs.Tops.{top-decides}
use Rattle.text.specs.Line.{outside}
use Rattle.weights.specs.Weights.{literals, paired, pair_words, sum, most_weight, most_weighted, most_sum}
use Rattle.weights.proofs.Sublists.{all_map}
use Rattle.aspif.specs.Rules.{InputRule, atoms, rule_top, rule_words, program_words, table_words}
use Rattle.aspif.specs.Reading.{all_weights, arranged}
use Rattle.aspif.specs.Turns.{weighted}
use Rattle.aspif.specs.Tables.{rules_at}
use Rattle.aspif.proofs.Formed.{Formed, inside-decides}
use Rattle.aspif.proofs.Pairs.{weighted-words}
use Rattle.aspif.proofs.PairWords.{literals-with, literals-arranged, arranged-light, length_pairs, paired-light}
use Rattle.aspif.proofs.RuleTests.{greatest-more}
use Rattle.aspif.proofs.SoundWeights.{pairs-half, sum-small}
use Rattle.derivation.specs.States.{is_atom}
use Rattle.aspif.proofs.Passes.{words_more}
use Rattle.names.proofs.Appended.{appended-holds}
use Rattle.steps.specs.Held.{Program}
use Rattle.costs.specs.Costs.{Cost, good_costs, restriction, restricted}
use Rattle.cheapest.specs.Private.{Restricts}

-- What good costs are

module _ (N : ℕ) (ks : List Cost) (g : good_costs N ks ≡ true) where
  later : (all (λ k. is_atom N (variable k.literal)) ks && distinct (literals ks)) ≡ true
  later = and_right (leb (length ks) most_weighted) _ g

  pub good-few : length ks ≤ most_weighted
  good-few = if-true (leb-decides (length ks) most_weighted) (and_left (leb (length ks) most_weighted) _ g)

  pub good-distinct : distinct (literals ks) ≡ true
  good-distinct = and_right (all (λ k. is_atom N (variable k.literal)) ks) _ later

  -- each literal is over an atom
  pub good-atoms : (z : ℤ) → z ∈ literals ks → (1 ≤ variable z) × (variable z ≤ N)
  good-atoms z i =
      let f = if-true (all-decides (λ x. and-decides (leb-decides 1 (variable x)) (leb-decides (variable x) N)) (literals ks))
      (all_map (λ k. k.literal) (λ x. is_atom N (variable x)) ks ∙ and_left (all (λ k. is_atom N (variable k.literal)) ks) _ later) in
      f z i

-- costs in their range add up to little
pub costs-small : (ws : List ℤ) → all_weights ws ≡ true → length ws ≤ 2 * most_weighted → sum (paired ws) ≤ most_sum
costs-small ws e h = omega (arith, h, sum-small ws e, pairs-half ws)

-- The words of the restriction

pub restriction-words : (pairs sorted : List ℤ) → sorted ≡ ascending (literals (paired pairs)) → (C : ℕ)
    → (pos 0 ∷ pos 0 ∷ pos 1 ∷ pos (length sorted) ∷ pos C ∷ []) ++ pair_words (weighted pairs sorted) ≡ rule_words (restriction (paired pairs) C)
unfolding arranged
restriction-words pairs sorted e C = rw (e, literals-with (paired pairs) (ascending (literals (paired pairs))))

-- they are written behind each other into a row
pub restriction-put : (pairs sorted : List ℤ) → sorted ≡ ascending (literals (paired pairs)) → (C : ℕ) (row xs ys : List ℤ)
    → xs ≡ (pos 0 ∷ pos 0 ∷ pos 1 ∷ pos (length sorted) ∷ pos C ∷ []) ++ drop 5 row
    → ys ≡ pair_words (weighted pairs sorted) ++ drop (2 * length sorted) (take (length xs - 5) (drop 5 xs))
    → put_mid 5 (length xs - 5) xs ys ≡ rule_words (restriction (paired pairs) C) ++ drop (5 + 2 * length sorted) row
restriction-put pairs sorted e C row xs ys p q =
    let counts = pos 0 ∷ pos 0 ∷ pos 1 ∷ pos (length sorted) ∷ pos C ∷ [] in
    let new = pair_words (weighted pairs sorted) in
    put_next counts (drop 5 row) new xs ys 5 refl p (rw (weighted-words pairs sorted) q)
    ∙ sym (append_assoc counts new (drop (length new) (drop 5 row)))
    ∙ ap (λ (l : List ℤ). l ++ drop (length new) (drop 5 row)) (restriction-words pairs sorted e C)
    ∙ ap (λ (l : List ℤ). rule_words (restriction (paired pairs) C) ++ l) (rw (weighted-words pairs sorted) (drop-drop (2 * length sorted) 5 row))

-- question 62 by its parts
pub good-told : (N : ℕ) (ks : List Cost) → length ks ≤ most_weighted → {a d : Bool} → a ≡ all (λ z. is_atom N (variable z)) (literals ks) → d ≡ distinct (literals ks)
    → (a && d) ≡ good_costs N ks
good-told N ks h p q = rw (le-leb (length ks) most_weighted h, p, q, all_map (λ k. k.literal) (λ z. is_atom N (variable z)) ks)

pub restricts-row : (N : ℕ) (pairs sorted : List ℤ) → all_weights pairs ≡ true → good_costs N (paired pairs) ≡ true → sorted ≡ ascending (literals (paired pairs))
    → (C : ℕ) → C ≤ most_weight → (row rest : List ℤ) → row ≡ rule_words (restriction (paired pairs) C) ++ rest
    → Restricts N (paired pairs) C (take (5 + 2 * length sorted) row)
restricts-row N pairs sorted w g e C h row rest q =
    record {
      is = ap (take (5 + 2 * length sorted)) q ∙ take_at (rule_words (restriction (paired pairs) C)) rest (5 + 2 * length sorted) size;
      good = g;
      light = paired-light pairs w;
      small = h;
    }
  where
    size : length (rule_words (restriction (paired pairs) C)) ≡ 5 + 2 * length sorted
    size = ap length (sym (restriction-words pairs sorted e C)) ∙ omega (arith, weighted-words pairs sorted)

pub sorted-few : (N : ℕ) (ks : List Cost) → good_costs N ks ≡ true → {sorted : List ℤ} → sorted ≡ ascending (literals ks) → length sorted ≤ most_weighted
sorted-few N ks g e = omega (arith, ap length e, length-ascending (literals ks), length-map ks (λ k. k.literal), good-few N ks g)

-- The program with it

module _ {N : ℕ} {ks : List Cost} {C : ℕ} {rule : List ℤ} (R : Restricts N ks C rule) where
  -- its literals are those of the costs
  literals-in : (z : ℤ) → z ∈ literals (arranged ks) → (1 ≤ variable z) × (variable z ≤ N)
  literals-in z i = good-atoms N ks R.good z (ascending→ (literals ks) (subst (λ l. z ∈ l) (literals-arranged ks) i))

  literals-few : length (literals (arranged ks)) ≤ most_weighted
  literals-few =
      omega (arith, ap length (literals-arranged ks), length-ascending (literals ks), length-map ks (λ k. k.literal), good-few N ks R.good)

  -- no longer than `RULE` of the code: five words and 12 pairs
  pub restricts-size : length rule ≤ 5 + 2 * most_weighted
  restricts-size =
      omega (arith, ap length R.is, length_pairs (arranged ks), literals-few, length-map (arranged ks) (λ k. k.literal))

  restriction-formed : N ≤ largest → Formed (restriction ks C)
  restriction-formed h =
      record {
        heads-few = omega arith;
        body-few = omega (arith, literals-few);
        headed = refl;
        positive = refl;
        heads-rise = refl;
        nonzero = failed _ ((not-decides (has-decides (pos 0) (literals (arranged ks)))).from (λ i. omega (arith, (literals-in (pos 0) i).0)));
        body-rise = ap rising (literals-arranged ks) ∙ rising-ascending (literals ks) ∙ good-distinct N ks R.good;
        heads-in = refl;
        body-in = failed _ ((inside-decides (literals (arranged ks))).from (λ z i. inside z (literals-in z i).1));
        weighing = (omega (arith, literals-few, length-map (arranged ks) (λ k. k.literal)), R.small, arranged-light ks R.light);
      }
    where
      inside : (z : ℤ) → variable z ≤ N → T (not (outside z))
      inside z u = rw (le-ltb largest (variable z) (omega (arith, u, h))) tt

  restricted-atoms : (ws : List InputRule) → N ≡ atoms ws → N ≡ atoms (restricted ws ks C)
  restricted-atoms ws e =
      let t = (top-decides N (literals (arranged ks))).to ((all-decides (λ z. leb-decides (variable z) N) (literals (arranged ks))).from (λ z i. (literals-in z i).1)) in
      omega (arith, e, t, greatest-more rule_top ws (restriction ks C))

  -- the wider table holds the program with the restriction, and 0 after it
  pub restricted-program : {ws : List InputRule} {table : List ℤ} {rules : ℕ} → Program table rules N ws → {wide : List ℤ} (k : ℕ)
      → wide ≡ (program_words (rules_at rules table) ++ rule) ++ replicate k (pos 0)
      → Program wide (rules + 1) N (restricted ws ks C) × (wide ≡ table_words (length wide) (restricted ws ks C))
  restricted-program {ws} {table} {rules} p {wide} k e = (
    record {
      holds = appended-holds p.holds (restriction ks C) (restriction-formed p.high) k h;
      top = restricted-atoms ws p.top;
      high = p.high;
    },
    w ∙ ap (λ n. program_words (restricted ws ks C) ++ replicate n (pos 0)) left,
  )
    where
      h : wide ≡ (program_words ws ++ rule_words (restriction ks C)) ++ replicate k (pos 0)
      h = e ∙ ap₂ (λ rs (l : List ℤ). (program_words rs ++ l) ++ replicate k (pos 0)) p.holds.are R.is

      w : wide ≡ program_words (restricted ws ks C) ++ replicate k (pos 0)
      w = h ∙ ap (λ (l : List ℤ). l ++ replicate k (pos 0)) (sym (words_more ws (restriction ks C)))

      left : k ≡ length wide - length (program_words (restricted ws ks C))
      left = omega (arith, ap length w, length-append (program_words (restricted ws ks C)) (replicate k (pos 0)), length-replicate k (pos 0))
