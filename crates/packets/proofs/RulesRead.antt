-- What the reader's functions for rules cite: the row that a rule is decoded into, and the table that its words go to.
-- Assumes nothing.
use mathlib.Core.Path.{◌≡◌, refl, sym, ◌∙◌, ap, ap₂}
use mathlib.Core.Bool.{Bool, true, false, cond, ◌&&◌, and-true}
use mathlib.Core.Option.{Option, none, some}
use Rattle.std.specs.Prelude.{Some}
use mathlib.Core.List.{List, [], ◌∷◌, ◌++◌, append-nil}
use Prim.Native.Nat.{ℕ, zero, suc, ◌+◌, ◌-◌, ◌<◌, ◌≤◌, max}
use native.Mathlib.Omega.{arith}
use lib.IntN.{ℤ, pos}
use lib.ListN.{length, set, take, drop, get_or, length-append, length-drop, length-take}
use lib.Seq.{sets, set_out, drop_at, drop-drop, length-take-le, length-sets}
use borrow.Rule.Slice.PartMut.{put_mid}
use Rattle.words.specs.Limits.{most_rules}
use Rattle.words.proofs.Parts.{tail_of, put-tail}
use Rattle.words.proofs.Laws.{sets-append}
use Rattle.weights.proofs.Sublists.{all_append}
use Rattle.aspif.specs.Rules.{InputRule, is_plain, all_plain, rule_top, atoms, rule_words, program_words}
use Rattle.aspif.specs.Tables.{size_at, rule_at, sound_at}
use Rattle.aspif.proofs.Formed.{words_append}
use Rattle.aspif.proofs.RuleTests.{greatest-more}
use Rattle.packets.specs.Bytes.{numbers_from}
use Rattle.packets.specs.Packets.{packet_rule, prepend, with_kind, as_table, fewer, rule_passes, rule_size, rule_in, rules_from, rules_in}
use Rattle.packets.specs.Parts.{most_words, size_if_sound, RuleTold, TableTold}
use Rattle.packets.specs.declared.Version.{Version}
use Rattle.packets.specs.declared.Version.TheVariants.{One, Two}
use Rattle.packets.specs.declared.reader.RuleRead.{RuleRead}
use Rattle.packets.proofs.RuleParts.{words_more, some_words, rule-long, rule-part, front-rule, rule-size, first_passes, first-rule}

-- The row

-- a packet's words read into a row, all but its first place
pub row_words : (row : List ℤ) {ys : List ℤ} (bytes : List ℕ) → 1 ≤ length row
    → ys ≡ numbers_from 4 (length (take (length row - 1) (drop 1 row))) bytes
    → drop 1 (put_mid 1 (length row - 1) row ys) ≡ numbers_from 4 (length row - 1) bytes
row_words row {ys} bytes h e =
    let n : length (take (length row - 1) (drop 1 row)) ≡ length row - 1 = ap length (tail_of 1 row) ∙ length-drop 1 row in
    ap (drop 1) (put-tail 1 row ys h) ∙ drop_at (take 1 row) ys 1 (length-take-le 1 row h) ∙ e ∙ rw n

-- words moved up by one place, with the body kind after the first two
pub kind-put : (row : List ℤ) {y z : ℤ} → 3 ≤ length row → y ≡ get_or row 1 (pos 0) → z ≡ get_or (set row 0 y) 2 (pos 0)
    → set (set (set row 0 y) 1 z) 2 (pos 0) ≡ with_kind (drop 1 row)
unfolding with_kind
kind-put [] h p q = absurd (omega arith)
kind-put (a ∷ []) h p q = absurd (omega arith)
kind-put (a ∷ b ∷ []) h p q = absurd (omega arith)
kind-put (a ∷ b ∷ c ∷ l) h p q = rw (p, q)

-- The table

-- words put into a tail are put into the whole, and past the end none is
module _ {A : Type 0} where
  sets-cons : (x : A) (l vs : List A) (i : ℕ) → sets (x ∷ l) (suc i) vs ≡ x ∷ sets l i vs
  sets-cons x l [] i = refl
  sets-cons x l (v ∷ vs) i = sets-cons x (set l i v) vs (suc i)

  sets-tail : (i : ℕ) (l vs : List A) → i ≤ length l → take i l ++ sets (drop i l) 0 vs ≡ sets l i vs
  sets-tail zero l vs h = refl
  sets-tail (suc i) [] vs h = absurd (omega arith)
  sets-tail (suc i) (x ∷ l) vs h = ap (λ (k : List A). x ∷ k) (sets-tail i l vs (omega arith)) ∙ sym (sets-cons x l vs i)

  pub tail-put : (i : ℕ) (l vs : List A) {ys : List A} → i ≤ length l → ys ≡ sets (take (length l - i) (drop i l)) 0 vs
      → put_mid i (length l - i) l ys ≡ sets l i vs
  tail-put i l vs h e =
      put-tail i l _ h ∙ ap (λ (k : List A). take i l ++ k) (e ∙ ap (λ (k : List A). sets k 0 vs) (tail_of i l)) ∙ sets-tail i l vs h

  pub none-put : (i : ℕ) (l vs : List A) → length l ≤ i → l ≡ sets l i vs
  none-put i l [] h = refl
  none-put i l (v ∷ vs) h = none-put (suc i) l vs (omega arith) ∙ ap (λ (k : List A). sets k (suc i) vs) (sym (set_out l i v h))

-- One rule

-- what is told of a rule
module _ (v : Version) (ws : List ℤ) {before : List ℤ} {at : ℕ} where
  pub told-sound : {row after : List ℤ} {words less largest : ℕ} {plain : Bool} → row ≡ as_table v ws → sound_at row ≡ true → words ≡ size_at row
      → less ≡ fewer v → largest ≡ rule_top (rule_at row) → plain ≡ is_plain (rule_at row) → after ≡ sets before at (take words row)
      → RuleTold v ws before after at (record { size = words - less; words = words; top = largest; plain = plain })
  unfolding size_if_sound
  told-sound {words = words} e s n l t b p =
      let q : rule_passes v ws ≡ true = rw e at s in
      let m : words ≡ size_at (as_table v ws) = rw e at n in
      let f = front-rule v ws q in
      record {
        size = rw (q, m, l);
        within = omega (arith, m, l, rule-size v ws q, ap length f.words, length-append (packet_rule v (rule_in v ws)) (drop (rule_size v ws) ws));
        stands = λ _. p ∙ ap (sets before at) (ap₂ take m e ∙ rule-part (as_table v ws) q);
        words = λ _. m ∙ sym (rule-long (as_table v ws) q);
        largest = λ _. t ∙ ap (λ (l : List ℤ). rule_top (rule_at l)) e;
        plain = λ _. b ∙ ap (λ (l : List ℤ). is_plain (rule_at l)) e;
      }

  -- no rule stands there
  pub told_none : {after : List ℤ} {r : RuleRead} → r.size ≡ 0 → rule_passes v ws ≡ false → RuleTold v ws before after at r
  unfolding size_if_sound
  told_none e q = record {
    size = e ∙ rw q;
    within = omega (arith, e);
    stands = λ h. absurd (omega (arith, e, h));
    words = λ h. absurd (omega (arith, e, h));
    largest = λ h. absurd (omega (arith, e, h));
    plain = λ h. absurd (omega (arith, e, h));
  }

  -- fewer than three words are no rule
  pub told-few : {after : List ℤ} {r : RuleRead} → r.size ≡ 0 → length ws < 3 → RuleTold v ws before after at r
  told-few e h = told_none e (by (rule_passes v ws) refl)
    where
      by : (t : Bool) → rule_passes v ws ≡ t → t ≡ false
      by true e =
          let r = packet_rule v (rule_in v ws) in
          absurd (omega (arith, ap length (front-rule v ws e).words, length-append r (drop (rule_size v ws) ws), some_words v (rule_in v ws)))
      by false e = refl

-- where there is a size, a rule stands there
pub sized : (v : Version) (ws : List ℤ) → 0 < size_if_sound v ws → (rule_passes v ws ≡ true) × (size_if_sound v ws ≡ rule_size v ws)
unfolding size_if_sound
sized v ws h = by (rule_passes v ws) refl h
  where
    by : (t : Bool) → rule_passes v ws ≡ t → 0 < cond t (rule_size v ws) 0 → (rule_passes v ws ≡ true) × (cond t (rule_size v ws) 0 ≡ rule_size v ws)
    by true e h = (e, refl)
    by false e h = absurd (omega arith)

-- the first words tell all that is told of a rule
pub told-first : (v : Version) (ws : List ℤ) {before after : List ℤ} {at : ℕ} {r : RuleRead} → RuleTold v (take most_words ws) before after at r
    → RuleTold v ws before after at r
unfolding size_if_sound
told-first v ws {before} {at = at} {r} t =
    record {
      size = s;
      within = omega (arith, t.within, length-take most_words ws);
      stands = λ h. t.stands h ∙ ap (λ (x : InputRule). sets before at (rule_words x)) (first h);
      words = λ h. t.words h ∙ ap (λ (x : InputRule). length (rule_words x)) (first h);
      largest = λ h. t.largest h ∙ ap rule_top (first h);
      plain = λ h. t.plain h ∙ ap is_plain (first h);
    }
  where
    same : (b : Bool) → rule_passes v ws ≡ b → size_if_sound v (take most_words ws) ≡ cond b (rule_size v ws) 0
    same true e = rw (first_passes v ws, e) (first-rule v ws e).1
    same false e = rw (first_passes v ws, e)

    s : r.size ≡ size_if_sound v ws
    s = t.size ∙ same (rule_passes v ws) refl

    first : 0 < r.size → rule_in v (take most_words ws) ≡ rule_in v ws
    first h = (first-rule v ws (sized v ws (rw s at h)).0).0

-- Rules one after another

-- a rule that passes has words
pub rules-stop : (v : Version) (n : ℕ) (ws : List ℤ) → 0 < length ws → size_if_sound v ws ≡ 0 → rules_from v n ws ≡ none
unfolding rules_from size_if_sound
rules-stop v n [] h e = absurd (omega arith)
rules-stop v zero (w ∷ ws) h e = refl
rules-stop v (suc n) (w ∷ ws) h e = by (rule_passes v (w ∷ ws)) refl e
  where
    by : (t : Bool) → rule_passes v (w ∷ ws) ≡ t → cond t (rule_size v (w ∷ ws)) 0 ≡ 0
        → cond t (prepend (rule_in v (w ∷ ws)) (rules_from v n (drop (rule_size v (w ∷ ws)) (w ∷ ws)))) none ≡ none
    by true s e = absurd (omega (arith, e, rule-size v (w ∷ ws) s, some_words v (rule_in v (w ∷ ws))))
    by false s e = refl

pub rules-full : (v : Version) (n : ℕ) (ws : List ℤ) → 0 < length ws → n ≤ 0 → rules_from v n ws ≡ none
unfolding rules_from
rules-full v n [] h e = absurd (omega arith)
rules-full v zero (w ∷ ws) h e = refl
rules-full v (suc n) (w ∷ ws) h e = absurd (omega arith)

pub rules-on : (v : Version) (n : ℕ) (ws : List ℤ) → 0 < n → 0 < length ws → (size_if_sound v ws ≡ 0 → ⊥)
    → rules_from v n ws ≡ prepend (rule_in v ws) (rules_from v (n - 1) (drop (size_if_sound v ws) ws))
unfolding rules_from size_if_sound
rules-on v zero ws z h e = absurd (omega arith)
rules-on v (suc n) [] z h e = absurd (omega arith)
rules-on v (suc n) (w ∷ ws) z h e = by (rule_passes v (w ∷ ws)) e
  where
    by : (t : Bool) → (cond t (rule_size v (w ∷ ws)) 0 ≡ 0 → ⊥)
        → cond t (prepend (rule_in v (w ∷ ws)) (rules_from v n (drop (rule_size v (w ∷ ws)) (w ∷ ws)))) none
        ≡ prepend (rule_in v (w ∷ ws)) (rules_from v (suc n - 1) (drop (cond t (rule_size v (w ∷ ws)) 0) (w ∷ ws)))
    by true e = let p : suc n - 1 ≡ n = omega arith in rw p
    by false e = absurd (e refl)

pub rules-none : (v : Version) (n : ℕ) (ws : List ℤ) → length ws ≤ 0 → rules_from v n ws ≡ some []
unfolding rules_from
rules-none v zero [] h = refl
rules-none v (suc n) [] h = refl
rules-none v n (w ∷ ws) h = absurd (omega arith)

-- elements before those that are read
abbrev pub onto : {A : Type 0} → List A → Option (List A) → Option (List A)
onto [] o = o
onto (x ∷ l) o = prepend x (onto l o)

module _ {A : Type 0} where
  pub onto-one : (l : List A) (x : A) (o : Option (List A)) → onto l (prepend x o) ≡ onto (l ++ (x ∷ [])) o
  onto-one [] x o = refl
  onto-one (y ∷ l) x o = ap (prepend y) (onto-one l x o)

  pub onto-none : (l : List A) → onto l none ≡ none
  onto-none [] = refl
  onto-none (y ∷ l) = ap (prepend y) (onto-none l)

  pub onto-some : (l k : List A) → onto l (some k) ≡ some (l ++ k)
  onto-some [] k = refl
  onto-some (y ∷ l) k = ap (prepend y) (onto-some l k)

-- a rule of the table has a word more at most
pub one_more : (v : Version) → fewer v ≤ 1
one_more One = omega arith
one_more Two = omega arith

-- After some rules the loop stands at word i; their words stand in the table, as many as fit.
pub record Filling (v : Version) (ws table₀ table : List ℤ) (rules words largest : ℕ) (plain : Bool) (i : ℕ) : Type 0 where
  pub before : List InputRule
  pub within : i ≤ length ws
  pub few : rules ≤ most_rules
  pub count : rules ≡ length before
  pub atom : largest ≡ atoms before
  pub plainly : plain ≡ all_plain before
  pub place : words ≡ length (program_words before)
  pub near : words ≤ i + rules
  pub whole : rules_in v ws ≡ onto before (rules_from v (most_rules - rules) (drop i ws))
  pub stands : table ≡ sets table₀ 0 (program_words before)

pub filling-start : (v : Version) (ws table : List ℤ) → Filling v ws table table 0 0 0 true 0
unfolding rules_in
filling-start v ws table = record {
  before = [];
  within = omega arith;
  few = omega arith;
  count = refl;
  atom = refl;
  plainly = refl;
  place = refl;
  near = omega arith;
  whole = refl;
  stands = refl;
}

module _ {v : Version} {ws table₀ table : List ℤ} {rules words largest : ℕ} {plain : Bool} {i : ℕ} (g : Filling v ws table₀ table rules words largest plain i) where
  pub filling-kept : length table ≡ length table₀
  filling-kept = rw g.stands (length-sets table₀ 0 (program_words g.before))

  pub filling-end : length ws ≤ i → TableTold (rules_in v ws) table₀ table (Some (record { rules = rules; words = words; top = largest; plain = plain }))
  filling-end h =
      let n = rules-none v (most_rules - rules) (drop i ws) (omega (arith, length-drop i ws)) in
      let e = g.whole ∙ ap (onto g.before) n ∙ onto-some g.before [] ∙ ap some (append-nil g.before) in
      rw e (rw (g.count, g.place, g.atom, g.plainly) refl, g.stands)

  module _ (h : i < length ws) where
    abbrev words_left : List ℤ
    words_left = drop i ws

    some_left : 0 < length words_left
    some_left = omega (arith, length-drop i ws)

    pub filling-full : most_rules ≤ rules → rules_in v ws ≡ none
    filling-full f = g.whole ∙ ap (onto g.before) (rules-full v (most_rules - rules) words_left some_left (omega arith)) ∙ onto-none g.before

    module _ {after : List ℤ} {r : RuleRead} (t : RuleTold v words_left table after words r) where
      pub filling-stop : r.size ≡ 0 → rules_in v ws ≡ none
      filling-stop z =
          let e = rules-stop v (most_rules - rules) words_left some_left (sym t.size ∙ z) in
          g.whole ∙ ap (onto g.before) e ∙ onto-none g.before

      -- the rule there
      module _ (z : r.size ≡ 0 → ⊥) where
        abbrev x : InputRule
        x = rule_in v words_left

        abbrev more : List InputRule
        more = g.before ++ (x ∷ [])

        there : 0 < r.size
        there = omega (arith, some_left)

        is-there : (rule_passes v words_left ≡ true) × (size_if_sound v words_left ≡ rule_size v words_left)
        is-there = sized v words_left (rw t.size at there)

        more-words : program_words more ≡ program_words g.before ++ rule_words x
        more-words = words_append g.before (x ∷ []) ∙ ap (λ (l : List ℤ). program_words g.before ++ l) (append-nil (rule_words x))

        -- it has a word more in the table at most
        pub filling-near : r.words ≤ r.size + 1
        filling-near =
            let n = t.size ∙ is-there.1 ∙ rule-size v words_left is-there.0 in
            omega (arith, n, t.words there, words_more v x (front-rule v words_left is-there.0).worded, one_more v)

        pub filling-on : {more-largest : ℕ} → more-largest ≡ max largest r.top → rules < most_rules
            → Filling v ws table₀ after (rules + 1) (words + r.words) more-largest (plain && r.plain) (i + r.size)
        filling-on m' k =
            let m : most_rules - rules - 1 ≡ most_rules - (rules + 1) = omega arith in
            let o : words ≡ 0 + length (program_words g.before) = omega (arith, g.place) in
            let on = rules-on v (most_rules - rules) words_left (omega arith) some_left (λ e. z (t.size ∙ e)) in
            record {
              before = more;
              within = omega (arith, t.within, length-drop i ws, g.within);
              few = omega arith;
              count = omega (arith, g.count, length-append g.before (x ∷ []));
              atom = omega (arith, m', t.largest there, g.atom, greatest-more rule_top g.before x);
              plainly = ap₂ (λ (a b : Bool). a && b) g.plainly (t.plain there ∙ sym (and-true (is_plain x))) ∙ sym (all_append is_plain g.before (x ∷ []));
              place = omega (arith, t.words there, ap length more-words, length-append (program_words g.before) (rule_words x), g.place);
              near = omega (arith, filling-near, g.near);
              whole = g.whole
                  ∙ ap (onto g.before) on
                  ∙ onto-one g.before x (rules_from v (most_rules - rules - 1) (drop (size_if_sound v words_left) words_left))
                  ∙ rw (m, ← t.size, drop-drop r.size i ws);
              stands = t.stands there
                  ∙ ap₂ (λ (l : List ℤ) (k : ℕ). sets l k (rule_words x)) g.stands o
                  ∙ sym (sets-append (program_words g.before) (rule_words x) table₀ 0)
                  ∙ ap (sets table₀ 0) (sym more-words);
            }
