-- What is known of a rule that stands at the front of some words, and of the words that a loop over the table has yet to read.
-- Assumes nothing.
use mathlib.Core.Path.{◌≡◌, refl, sym, ◌∙◌, ap}
use mathlib.Core.Bool.{true, ◌&&◌, Bool, cond, false, not, and-false}
use mathlib.Core.List.{List, [], ◌∷◌, map}
use Prim.Native.Nat.{ℕ, zero, suc, ◌+◌, ◌*◌, ◌-◌, ◌≤◌, ◌<◌}
use native.Mathlib.Omega.{arith}
use borrow.Author.Tests.{leb-true, lt-leb}
use lib.Dec.{leb}
use lib.IntN.{ℤ, pos}
use lib.Signed.{lt_z}
use lib.ListN.{length, drop, get_or, length-drop}
use lib.Seq.{drop-drop}
use mathlib.Core.Option.{some, none, some-injective, none-ne-some}
use Rattle.words.proofs.Ascending.{top-ascends}
use Rattle.words.specs.Lists.{all}
use Rattle.words.specs.Literals.{same}
use Rattle.weights.specs.Weights.{paired, most_weighted}
use Rattle.aspif.specs.Reading.{all_weights}
use Rattle.aspif.specs.Rules.{plain, weights, is_plain_body, is_plain, literals_of, InputRule, is_count, is_weight, rule_top, atoms}
use Rattle.aspif.proofs.Counts.{count_small}
use Rattle.words.specs.Limits.{most_literals, most_rules, largest}
use Rattle.words.proofs.Lists.{and_left, and_right, one_less, nothing_left}
use Rattle.aspif.specs.Tables.{is_kind, is_weighted, is_headed, heads_sound, literals_sound, head_count, body_count, head_start, body_length, size_at, heads_at, body_words_at, bound_at, body_at, rule_at, shape_sound, weights_sound, body_sound, sound_at, starts_at, rules_at, sound_rules, sound_table, rules_of}

-- the counts are small, and the words are there
pub record Shaped (ws : List ℤ) : Type 0 where
  pub heads : head_count ws ≤ most_literals
  pub body : body_count ws ≤ most_literals
  pub long : 4 ≤ length ws
  pub counted : is_count (get_or ws 3 (pos 0)) ≡ true
  pub fits : head_start ws + head_count ws + body_length ws ≤ length ws

-- the heads begin at word 4 or 5
pub start_small : (ws : List ℤ) → (4 ≤ head_start ws) × (head_start ws ≤ 5)
start_small ws = by (is_weighted ws)
  where
    by : (t : Bool) → (4 ≤ cond t 5 4) × (cond t 5 4 ≤ 5)
    by true = (omega arith, omega arith)
    by false = (omega arith, omega arith)

pub shaped : (ws : List ℤ) → shape_sound ws ≡ true → Shaped ws
unfolding shape_sound size_at
shaped ws e =
    let f = and_right (is_count (get_or ws 1 (pos 0))) _ e in
    let g = and_right (is_kind (get_or ws 2 (pos 0))) _ f in
    let h = and_right (is_count (get_or ws 3 (pos 0))) _ g in
    let n = leb-true (head_start ws + head_count ws + body_length ws) (length ws) (and_right (is_headed ws) _ h) in
    record {
      heads = count_small (get_or ws 1 (pos 0)) (and_left _ _ e);
      body = count_small (get_or ws 3 (pos 0)) (and_left _ _ g);
      counted = and_left _ _ g;
      long = omega (arith, (start_small ws).0, n);
      fits = n;
    }

-- fewer words than four hold no rule
pub too_short : (ws : List ℤ) → length ws < 4 → shape_sound ws ≡ false
unfolding shape_sound size_at
too_short ws h =
    rw (lt-leb (head_start ws + head_count ws + body_length ws) (length ws) (omega (arith, (start_small ws).0)), and-false (is_headed ws), and-false (is_count (get_or ws 3 (pos 0))), and-false (is_kind (get_or ws 2 (pos 0)))) (and-false (is_count (get_or ws 1 (pos 0))))

-- the body takes twice its count at most
pub body-small : (ws : List ℤ) → body_length ws ≤ 2 * body_count ws
body-small ws = by (is_weighted ws)
  where
    by : (t : Bool) → cond t (2 * body_count ws) (body_count ws) ≤ 2 * body_count ws
    by true = omega arith
    by false = omega arith

-- no weight body, of the rule there
pub plain_at : (ws : List ℤ) → is_plain (rule_at ws) ≡ not (is_weighted ws)
unfolding body_at
plain_at ws = by (is_weighted ws)
  where
    by : (t : Bool) → is_plain_body (cond t (weights (bound_at ws) (paired (body_words_at ws))) (plain (body_words_at ws))) ≡ not t
    by true = refl
    by false = refl

-- Rules one after another

-- the shape of a rule that is sound
pub shape_of : (ws : List ℤ) → sound_at ws ≡ true → shape_sound ws ≡ true
unfolding sound_at
shape_of ws e = and_left (shape_sound ws) (heads_sound (heads_at ws) && body_sound ws) e

-- one rule off the front
pub sound-on : (n : ℕ) (ws : List ℤ) → 0 < n → sound_rules n ws ≡ (sound_at ws && sound_rules (n - 1) (drop (size_at ws) ws))
sound-on n ws h = ap (λ k. sound_rules k ws) (one_less n h)

pub rules-on : (n : ℕ) (ws : List ℤ) → 0 < n → rules_at n ws ≡ rule_at ws ∷ rules_at (n - 1) (drop (size_at ws) ws)
rules-on n ws h = ap (λ k. rules_at k ws) (one_less n h)

-- no rule is left
pub sound-end : (n : ℕ) (ws : List ℤ) → n ≤ 0 → sound_rules n ws ≡ all (same (pos 0)) ws
sound-end n ws h = ap (λ k. sound_rules k ws) (nothing_left n h)

pub no-rules : (n : ℕ) (ws : List ℤ) → n ≤ 0 → rules_at n ws ≡ []
no-rules n ws h = ap (λ k. rules_at k ws) (nothing_left n h)

-- a table that is let pass has few rules, and they are sound
pub few-rules : (t : List ℤ) (n : ℕ) → sound_table t n ≡ true → n ≤ most_rules
unfolding sound_table
few-rules t n e = leb-true n most_rules (and_left _ _ e)

pub sound-rules : (t : List ℤ) (n : ℕ) → sound_table t n ≡ true → sound_rules n t ≡ true
unfolding sound_table
sound-rules t n e = and_right (leb n most_rules) _ e

-- A loop over the table stands at word i, with so many rules left.
pub record Cursor (t : List ℤ) (left i : ℕ) : Type 0 where
  pub within : i ≤ length t
  pub sound : sound_rules left (drop i t) ≡ true

-- the rule there, and the cursor after it
pub record AtRule (t : List ℤ) (left i : ℕ) : Type 0 where
  pub sound : sound_at (drop i t) ≡ true
  pub here : (i ≤ length t) × (shape_sound (drop i t) ≡ true)
  pub next : Cursor t (left - 1) (i + size_at (drop i t))
  pub rules : rules_at left (drop i t) ≡ rule_at (drop i t) ∷ rules_at (left - 1) (drop (i + size_at (drop i t)) t)

pub at-rule : {t : List ℤ} {left i : ℕ} → 0 < left → Cursor t left i → AtRule t left i
unfolding size_at
at-rule {t} {left} {i} h c =
    let ws = drop i t in
    let e = sym (sound-on left ws h) ∙ c.sound in
    let s = and_left (sound_at ws) _ e in
    let f = shaped ws (shape_of ws s) in
    record {
      sound = s;
      here = (c.within, shape_of ws s);
      next = record {
        within = omega (arith, f.fits, length-drop i t, c.within);
        sound = rw (← drop-drop (size_at ws) i t) (and_right (sound_at ws) _ e);
      };
      rules = rules-on left ws h ∙ rw (drop-drop (size_at ws) i t);
    }

-- N is at most the largest variable

-- the literals of a body that is sound ascend
pub literals-sound : (ws : List ℤ) → body_sound ws ≡ true → literals_sound (literals_of (body_at ws)) ≡ true
unfolding body_sound weights_sound body_at
literals-sound ws e = by (is_weighted ws) e
  where
    by : (t : Bool) → cond t (weights_sound ws) (literals_sound (body_words_at ws)) ≡ true → literals_sound (literals_of (cond t (weights (bound_at ws) (paired (body_words_at ws))) (plain (body_words_at ws)))) ≡ true
    by true p =
        let q = and_right (leb (body_count ws) most_weighted) _ p in
        and_right (all_weights (body_words_at ws)) _ (and_right (is_weight (get_or ws 4 (pos 0))) _ q)
    by false p = p

rule-small : (ws : List ℤ) → sound_at ws ≡ true → rule_top (rule_at ws) ≤ largest
unfolding sound_at
rule-small ws e =
    let f = and_right (shape_sound ws) _ e in
    let h = top-ascends 0 largest (heads_at ws) (and_right (all (λ h. lt_z (pos 0) h) (heads_at ws)) _ (and_left (heads_sound (heads_at ws)) _ f)) in
    let b = top-ascends 0 largest (literals_of (body_at ws)) (literals-sound ws (and_right (heads_sound (heads_at ws)) _ f)) in
    omega arith

pub atoms-small : (n : ℕ) (ws : List ℤ) → sound_rules n ws ≡ true → atoms (rules_at n ws) ≤ largest
atoms-small zero ws e = omega arith
atoms-small (suc n) ws e =
    let p = rule-small ws (and_left (sound_at ws) _ e) in
    let q = atoms-small n (drop (size_at ws) ws) (and_right (sound_at ws) _ e) in
    omega arith

pub rules-of : (table : List ℤ) (rules : ℕ) (rs : List InputRule) → rules_of table rules ≡ some rs → (sound_table table rules ≡ true) × (rules_at rules table ≡ rs)
rules-of table rules rs = by (sound_table table rules) refl
  where
    by : (b : Bool) → sound_table table rules ≡ b → cond b (some (rules_at rules table)) none ≡ some rs → (sound_table table rules ≡ true) × (rules_at rules table ≡ rs)
    by true e p = (e, some-injective _ _ p)
    by false e p = absurd (none-ne-some rs p)

-- The words from each rule on, as an iterator over the rules gives them

pub starts-on : (n : ℕ) (ws : List ℤ) → 0 < n → starts_at n ws ≡ ws ∷ starts_at (n - 1) (drop (size_at ws) ws)
starts-on n ws h = ap (λ k. starts_at k ws) (one_less n h)

pub starts-length : (n : ℕ) (ws : List ℤ) → length (starts_at n ws) ≡ n
starts-length zero ws = refl
starts-length (suc n) ws = ap suc (starts-length n (drop (size_at ws) ws))

-- the rule that stands first, and those behind it
pub first-sound : (n : ℕ) (ws : List ℤ) → 0 < n → sound_rules n ws ≡ true → (sound_at ws ≡ true) × (sound_rules (n - 1) (drop (size_at ws) ws) ≡ true)
first-sound n ws h e =
    let f = sym (sound-on n ws h) ∙ e in
    (and_left (sound_at ws) _ f, and_right (sound_at ws) _ f)

-- the rules are those that begin there
pub rules_from_starts : (n : ℕ) (ws : List ℤ) → rules_at n ws ≡ map rule_at (starts_at n ws)
rules_from_starts zero ws = refl
rules_from_starts (suc n) ws = ap (λ rs. rule_at ws ∷ rs) (rules_from_starts n (drop (size_at ws) ws))
