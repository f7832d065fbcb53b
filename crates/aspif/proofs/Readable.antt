-- Question 41: the executable test says what the paper says, `table-read`. A rule that sound words hold is one that the reader
-- forms, and the other way round; the text that is read is written from the rules. Assumes nothing.
use mathlib.Core.Path.{◌≡◌, refl, sym, ◌∙◌, ap, ap₂, subst}
use mathlib.Core.Bool.{Bool, true, false, cond, ◌||◌}
use mathlib.Core.Option.{some}
use mathlib.Core.List.Memᴰ
use mathlib.Core.List.{List, [], ◌∷◌, ◌++◌, append_assoc}
use Prim.Native.Nat.{ℕ, zero, suc, ◌+◌, ◌*◌, ◌-◌, ◌≤◌, ◌<◌}
use native.Mathlib.Omega.{arith}
use borrow.Author.Tests.{le-leb, leb-true}
use lib.Dec.{leb}
use lib.IntN.{ℤ, pos}
use lib.Signed.{lt_z}
use lib.ListN.{length, take, drop, get_or, replicate, length-append, length-drop, length-replicate, length-map, take-append-drop}
use lib.Seq.{drop-cons, drop-drop, length-take-le, take-append_seam, drop-append_seam}
use Rattle.words.specs.Limits.{largest, most_literals, most_rules}
use Rattle.words.specs.Lists.{◌∈◌, all}
use Rattle.words.specs.Literals.{same}
use Rattle.words.proofs.Lists.{itself, passed, all-decides, if-true, is_true, and_left, and_right, by-test}
use Rattle.words.proofs.Literals.{same-decides, positive}
use Rattle.weights.specs.Weights.{literals, paired, most_weight, most_weighted}
use Rattle.weights.proofs.Matching.{paired_words}
use Rattle.aspif.specs.Reading.{all_weights}
use Rattle.aspif.specs.Rules.{Body, plain, weights, InputRule, literals_of, is_count, is_weight, kind_word, body_kind_word, bound_words, body_words, rule_words, program_words, table_words}
use Rattle.aspif.specs.declared.Kind.{Kind}
use Rattle.aspif.specs.declared.Kind.TheVariants.{Normal, Choice}
use Rattle.aspif.proofs.PairWords.{up_to, is-up-to, light-decides, words-paired, paired-light, length_pairs, length-paired}
use Rattle.aspif.proofs.Formed.{Weighing, Formed, FitsTable, inside, inside_of, no_zero, none-zero, read_fits}
use Rattle.aspif.specs.Text.{program_text}
use Rattle.aspif.proofs.Written.{written_read}
use Rattle.aspif.specs.Tables.{ReadAs, kind_of, is_kind, is_weighted, is_headed, heads_sound, literals_sound, head_count, body_count, head_start, body_length, size_at, heads_at, body_words_at, bound_at, body_at, rule_at, shape_sound, weights_sound, body_sound, sound_at, rules_at, sound_rules, sound_table, rules_of}
use Rattle.aspif.specs.Claims.{FormedWithin, TableRead}
use Rattle.words.proofs.Ascending.{ascends-rising, rising-ascends, ascends-words}
use Rattle.aspif.proofs.Cursors.{shaped, shape_of, literals-sound, few-rules, sound-rules, rules-of}

-- Heads and literals

heads-sound : (r : InputRule) → Formed r → heads_sound r.heads ≡ true
heads-sound r f =
    rw f.positive
    (rising-ascends 0 largest r.heads f.heads-rise
    (λ z i. ((positive z ((all-decides (λ h. itself (lt_z (pos 0) h)) r.heads).to ((passed _).from f.positive) z i)).1, inside r.heads f.heads-in z i)))

literals-rise : (r : InputRule) → Formed r → literals_sound (literals_of r.body) ≡ true
literals-rise r f =
    let ls = literals_of r.body in
    rising-ascends 0 largest ls f.body-rise (λ z i. (none-zero ls f.nonzero z i, inside ls f.body-in z i))

-- Kinds and counts

-- a head kind is 0 or 1
kind-word : (w : ℤ) → is_kind w ≡ true → w ≡ kind_word (kind_of w)
kind-word w = by (same w (pos 0)) refl
  where
    by : (t : Bool) → same w (pos 0) ≡ t → (t || same w (pos 1)) ≡ true → w ≡ kind_word (kind_of w)
    by true p e = let z = if-true (same-decides w (pos 0)) p in rw z refl
    by false p e = let z = if-true (same-decides w (pos 1)) e in rw z refl

is-kind : (k : Kind) → is_kind (kind_word k) ≡ true
is-kind Normal = refl
is-kind Choice = refl

kind-of-word : (k : Kind) → kind_of (kind_word k) ≡ k
kind-of-word Normal = refl
kind-of-word Choice = refl

-- a body kind is one of the same two words
is-body-kind : (b : Body) → is_kind (body_kind_word b) ≡ true
is-body-kind (plain ls) = refl
is-body-kind (weights b l) = refl

-- The words of a rule that is formed hold it

-- where its heads begin, and how many words its body takes
start_is : (b : Body) → cond (same (body_kind_word b) (pos 1)) 5 4 ≡ 4 + length (bound_words b)
start_is (plain ls) = refl
start_is (weights b l) = refl

size_is : (b : Body) → cond (same (body_kind_word b) (pos 1)) (2 * length (literals_of b)) (length (literals_of b)) ≡ length (body_words b)
size_is (plain ls) = refl
size_is (weights b l) = omega (arith, length-map l (λ x. x.literal), length_pairs l)

-- the words before the heads
abbrev front_words : InputRule → List ℤ
front_words r =
    kind_word r.kind ∷ pos (length r.heads) ∷ body_kind_word r.body ∷ pos (length (literals_of r.body)) ∷ bound_words r.body

module _ (r : InputRule) (t : List ℤ) where
  abbrev ws : List ℤ
  ws = rule_words r ++ t

  abbrev h : ℕ
  h = length r.heads

  parts : ws ≡ front_words r ++ (r.heads ++ (body_words r.body ++ t))
  parts =
      ap (λ (l : List ℤ). kind_word r.kind ∷ pos h ∷ body_kind_word r.body ∷ pos (length (literals_of r.body)) ∷ l)
      (append_assoc (bound_words r.body) (r.heads ++ body_words r.body) t
      ∙ ap (λ (l : List ℤ). bound_words r.body ++ l) (append_assoc r.heads (body_words r.body) t))

  from_heads : drop (head_start ws) ws ≡ r.heads ++ (body_words r.body ++ t)
  from_heads =
      let e : head_start ws ≡ length (front_words r) = omega (arith, start_is r.body) in
      ap₂ drop e parts ∙ drop-append_seam (front_words r) (r.heads ++ (body_words r.body ++ t))

  from-body : drop (head_start ws + h) ws ≡ body_words r.body ++ t
  from-body = sym (drop-drop h (head_start ws) ws) ∙ ap (drop h) from_heads ∙ drop-append_seam r.heads (body_words r.body ++ t)

  pub heads-at : heads_at ws ≡ r.heads
  unfolding heads_at
  heads-at = ap (take h) from_heads ∙ take-append_seam r.heads (body_words r.body ++ t)

  pub body-words-at : body_words_at ws ≡ body_words r.body
  unfolding body_words_at
  body-words-at = ap₂ take (size_is r.body) from-body ∙ take-append_seam (body_words r.body) t

  pub rest_at : drop (size_at ws) ws ≡ t
  unfolding size_at
  rest_at =
      sym (drop-drop (body_length ws) (head_start ws + h) ws) ∙ ap₂ drop (size_is r.body) from-body ∙ drop-append_seam (body_words r.body) t

-- its body, by cases on its kind
module _ (k : Kind) (hs t : List ℤ) where
  -- the rule with that body
  abbrev having : Body → InputRule
  having b = record { kind = k; heads = hs; body = b }

  held-body : (b : Body) → body_at (rule_words (having b) ++ t) ≡ b
  unfolding body_at bound_at
  held-body (plain ls) = ap plain (body-words-at (having (plain ls)) t)
  held-body (weights b l) = ap (weights b) (ap paired (body-words-at (having (weights b l)) t) ∙ paired_words l)

  sound-body : (b : Body) → Formed (having b) → body_sound (rule_words (having b) ++ t) ≡ true
  unfolding body_sound weights_sound
  sound-body (plain ls) f = rw (body-words-at (having (plain ls)) t) (literals-rise (having (plain ls)) f)
  sound-body (weights b l) f =
      let w = f.weighing in
      let n : length (literals l) ≤ most_weighted = omega (arith, length-map l (λ x. x.literal), w.0) in
      let e = le-leb (length (literals l)) most_weighted n in
      let g = is_true (light-decides l) w.2 in
      rw (e, is-up-to most_weight b w.1, body-words-at (having (weights b l)) t, g, paired_words l) (literals-rise (having (weights b l)) f)

pub rule-at : (r : InputRule) (t : List ℤ) → rule_at (ws r t) ≡ r
rule-at r t = rw (kind-of-word r.kind, heads-at r t, held-body r.kind r.heads t r.body)

-- their counts and kinds are such, whatever question 55 was put with
module _ {most : ℕ} (r : InputRule) (f : FormedWithin most r) (t : List ℤ) where
  words-there : head_start (ws r t) + h r t + body_length (ws r t) ≤ length (ws r t)
  words-there =
      let u = body_words r.body ++ t in
      let m = length-append (front_words r) (r.heads ++ u) in
      let n = length-append r.heads u in
      omega (arith, ap length (parts r t), m, n, length-append (body_words r.body) t, start_is r.body, size_is r.body)

  pub shape-words : shape_sound (ws r t) ≡ true
  unfolding shape_sound size_at
  shape-words =
      let c = is-up-to most_literals (h r t) f.heads-few in
      let d = is-up-to most_literals (length (literals_of r.body)) f.body-few in
      rw (c, is-body-kind r.body, d, is-kind r.kind, kind-of-word r.kind, f.headed, le-leb _ _ words-there)

pub sound-words : (r : InputRule) → Formed r → (t : List ℤ) → sound_at (ws r t) ≡ true
unfolding sound_at
sound-words r f t = rw (shape-words r f t, heads-at r t, heads-sound r f) (sound-body r.kind r.heads t r.body f)

module _ (t : List ℤ) (z : all (same (pos 0)) t ≡ true) where
  pub rules-back : (rs : List InputRule) → ((r : InputRule) → r ∈ rs → Formed r) → (sound_rules (length rs) (program_words rs ++ t) ≡ true) × (rules_at (length rs) (program_words rs ++ t) ≡ rs)
  rules-back [] f = (z, refl)
  rules-back (r ∷ rs) f =
      let g = f r (Memᴰ.head refl) in
      let u = program_words rs ++ t in
      let e : program_words (r ∷ rs) ++ t ≡ rule_words r ++ u = append_assoc (rule_words r) (program_words rs) t in
      let i = rules-back rs (λ s j. f s (Memᴰ.tail j)) in
      rw e (rw (sound-words r g u, rest_at r u) i.0, ap₂ (λ a l. a ∷ l) (rule-at r u) (rw (rest_at r u) i.1))

pub all-zero : (n : ℕ) → all (same (pos 0)) (replicate n (pos 0)) ≡ true
all-zero zero = refl
all-zero (suc n) = all-zero n

-- a program that is formed and fits is what its table holds
pub table-back : (size : ℕ) (rs : List InputRule) → FitsTable size rs → rules_of (table_words size rs) (length rs) ≡ some rs
unfolding sound_table
table-back size rs f =
    let k = rules-back (replicate (size - length (program_words rs)) (pos 0)) (all-zero (size - length (program_words rs))) rs f.formed in
    rw (le-leb (length rs) most_rules f.few, k.0, k.1)

-- Sound words are those of a rule that is formed, and what comes after it

-- the tests of the words before the heads
record Fronted (ws : List ℤ) : Type 0 where
  pub many : is_count (get_or ws 1 (pos 0)) ≡ true
  pub kind : is_kind (get_or ws 2 (pos 0)) ≡ true
  pub long : is_count (get_or ws 3 (pos 0)) ≡ true
  pub headed : is_headed ws ≡ true

-- at least four words stand before the heads
start-large : (ws : List ℤ) → 4 ≤ head_start ws
start-large ws = by-test (λ n. 4 ≤ n) (is_weighted ws) (λ e. omega arith) (λ e. omega arith)

module _ (ws : List ℤ) (s : sound_at ws ≡ true) where
  abbrev heads : ℕ
  heads = head_count ws

  fronted : Fronted ws
  unfolding shape_sound
  fronted =
      let e = shape_of ws s in
      let f = and_right (is_count (get_or ws 1 (pos 0))) _ e in
      let g = and_right (is_kind (get_or ws 2 (pos 0))) _ f in
      record {
        many = and_left (is_count (get_or ws 1 (pos 0))) _ e;
        kind = and_left (is_kind (get_or ws 2 (pos 0))) _ f;
        long = and_left (is_count (get_or ws 3 (pos 0))) _ g;
        headed = and_left (is_headed ws) _ (and_right (is_count (get_or ws 3 (pos 0))) _ g);
      }

  sorted : (heads_sound (heads_at ws) ≡ true) × (body_sound ws ≡ true)
  unfolding sound_at
  sorted = let e = and_right (shape_sound ws) _ s in (and_left (heads_sound (heads_at ws)) _ e, and_right (heads_sound (heads_at ws)) _ e)

  length-heads : length (heads_at ws) ≡ heads
  unfolding heads_at
  length-heads =
      let f = shaped ws (shape_of ws s) in
      length-take-le heads (drop (head_start ws) ws) (omega (arith, f.fits, length-drop (head_start ws) ws))

  length-body : length (body_words_at ws) ≡ body_length ws
  unfolding body_words_at
  length-body =
      let f = shaped ws (shape_of ws s) in
      length-take-le (body_length ws) (drop (head_start ws + heads) ws) (omega (arith, f.fits, length-drop (head_start ws + heads) ws))

  -- a bound and weights
  weighed : is_weighted ws ≡ true → (body_count ws ≤ most_weighted) × (is_weight (get_or ws 4 (pos 0)) ≡ true) × (all_weights (body_words_at ws) ≡ true)
  unfolding body_sound weights_sound
  weighed e =
      let p : weights_sound ws ≡ true = ap (λ (b : Bool). cond b (weights_sound ws) (literals_sound (body_words_at ws))) (sym e) ∙ sorted.1 in
      let q = and_right (leb (body_count ws) most_weighted) _ p in
      let u = and_right (is_weight (get_or ws 4 (pos 0))) _ q in (
        leb-true (body_count ws) most_weighted (and_left _ _ p),
        and_left (is_weight (get_or ws 4 (pos 0))) _ q,
        and_left (all_weights (body_words_at ws)) _ u,
      )

  length-pairs-at : is_weighted ws ≡ true → length (paired (body_words_at ws)) ≡ body_count ws
  length-pairs-at e =
      let n : body_length ws ≡ 2 * body_count ws = rw e in
      omega (arith, n, length-body, length-paired (body_words_at ws) (weighed e).2)

  length-literals : length (literals_of (body_at ws)) ≡ body_count ws
  unfolding body_at
  length-literals =
      by-test (λ b. length (literals_of b) ≡ body_count ws) (is_weighted ws)
      (λ e. length-map (paired (body_words_at ws)) (λ x. x.literal) ∙ length-pairs-at e)
      (λ e. length-body ∙ rw e)

  weighing-at : Weighing (body_at ws)
  unfolding body_at bound_at
  weighing-at =
      by-test Weighing (is_weighted ws)
      (λ e.
      let b = up_to most_weight (get_or ws 4 (pos 0)) (weighed e).1 in
      (rw (length-pairs-at e) (weighed e).0, b.1, paired-light (body_words_at ws) (weighed e).2))
      (λ e. tt)

  pub rule-formed : Formed (rule_at ws)
  rule-formed =
      let f = shaped ws (shape_of ws s) in
      let up = and_right (all (λ h. lt_z (pos 0) h) (heads_at ws)) _ sorted.0 in
      let ls = literals-sound ws sorted.1 in
      record {
        heads-few = rw length-heads f.heads;
        body-few = rw length-literals f.body;
        headed = rw length-heads (and_right (is_kind (get_or ws 0 (pos 0))) _ fronted.headed);
        positive = and_left (all (λ h. lt_z (pos 0) h) (heads_at ws)) _ sorted.0;
        heads-rise = ascends-rising 0 largest (heads_at ws) up;
        nonzero = no_zero (literals_of (body_at ws)) (λ z i. (ascends-words 0 largest (literals_of (body_at ws)) ls z i).0);
        body-rise = ascends-rising 0 largest (literals_of (body_at ws)) ls;
        heads-in = inside_of (heads_at ws) (λ z i. (ascends-words 0 largest (heads_at ws) up z i).1);
        body-in = inside_of (literals_of (body_at ws)) (λ z i. (ascends-words 0 largest (literals_of (body_at ws)) ls z i).1);
        weighing = weighing-at;
      }

  -- the words of the body, and its kind
  words-body : body_words (body_at ws) ≡ body_words_at ws
  unfolding body_at
  words-body =
      by-test (λ b. body_words b ≡ body_words_at ws) (is_weighted ws) (λ e. words-paired (body_words_at ws) (weighed e).2) (λ e. refl)

  kind-body : get_or ws 2 (pos 0) ≡ body_kind_word (body_at ws)
  unfolding body_at
  kind-body = kind-word (get_or ws 2 (pos 0)) fronted.kind ∙ by (is_weighted ws)
    where
      by : (t : Bool) → kind_word (cond t Choice Normal) ≡ body_kind_word (cond t (weights (bound_at ws) (paired (body_words_at ws))) (plain (body_words_at ws)))
      by true = refl
      by false = refl

  -- the heads, the body and the rest
  after_front : drop (head_start ws) ws ≡ heads_at ws ++ (body_words_at ws ++ drop (size_at ws) ws)
  unfolding heads_at body_words_at size_at
  after_front =
      let u = drop (head_start ws) ws in
      let v = drop (head_start ws + heads) ws in
      let w : v ≡ take (body_length ws) v ++ drop (head_start ws + heads + body_length ws) ws =
      sym (take-append-drop (body_length ws) v) ∙ ap (λ (l : List ℤ). take (body_length ws) v ++ l) (drop-drop (body_length ws) (head_start ws + heads) ws) in
      sym (take-append-drop heads u) ∙ ap (λ (l : List ℤ). take heads u ++ l) (drop-drop heads (head_start ws) ws ∙ w)

  -- the bound, where there is one
  bound-part : drop 4 ws ≡ bound_words (body_at ws) ++ drop (head_start ws) ws
  unfolding body_at bound_at
  bound-part = by (is_weighted ws) (λ e. (weighed e).1) (let f = shaped ws (shape_of ws s) in omega arith)
    where
      by : (t : Bool) → (t ≡ true → is_weight (get_or ws 4 (pos 0)) ≡ true) → cond t 5 4 ≤ length ws
          → drop 4 ws ≡ bound_words (cond t (weights (bound_at ws) (paired (body_words_at ws))) (plain (body_words_at ws))) ++ drop (cond t 5 4) ws
      by true w h = drop-cons ws 4 (pos 0) (omega arith) ∙ ap (λ (z : ℤ). z ∷ drop 5 ws) (up_to most_weight (get_or ws 4 (pos 0)) (w refl)).0
      by false w h = refl

  front-part : ws ≡ front_words (rule_at ws) ++ drop (head_start ws) ws
  front-part =
      let n : 4 ≤ length ws = let f = shaped ws (shape_of ws s) in omega (arith, start-large ws) in
      let cons : ℤ → List ℤ → List ℤ = λ z l. z ∷ l in
      let word : (i : ℕ) → i < 4 → drop i ws ≡ get_or ws i (pos 0) ∷ drop (suc i) ws = λ i h. drop-cons ws i (pos 0) (omega arith) in
      let k = kind-word (get_or ws 0 (pos 0)) (and_left (is_kind (get_or ws 0 (pos 0))) _ fronted.headed) in
      let c = (up_to most_literals (get_or ws 1 (pos 0)) fronted.many).0 ∙ ap pos (sym length-heads) in
      let d = (up_to most_literals (get_or ws 3 (pos 0)) fronted.long).0 ∙ ap pos (sym length-literals) in
      word 0 (omega arith)
      ∙ ap₂ cons k (word 1 (omega arith) ∙ ap₂ cons c (word 2 (omega arith) ∙ ap₂ cons kind-body (word 3 (omega arith) ∙ ap₂ cons d bound-part)))

pub front-words : (ws : List ℤ) → sound_at ws ≡ true → ws ≡ rule_words (rule_at ws) ++ drop (size_at ws) ws
front-words ws s =
    let e : drop (head_start ws) ws ≡ heads_at ws ++ (body_words (body_at ws) ++ drop (size_at ws) ws) = after_front ws s ∙ rw (words-body ws s) in
    front-part ws s ∙ ap (λ (l : List ℤ). front_words (rule_at ws) ++ l) e ∙ sym (parts (rule_at ws) (drop (size_at ws) ws))

zero-words : (ws : List ℤ) → all (same (pos 0)) ws ≡ true → ws ≡ replicate (length ws) (pos 0)
zero-words [] e = refl
zero-words (w ∷ ws) e = ap₂ (λ a l. a ∷ l) (sym (if-true (same-decides (pos 0) w) (and_left _ _ e))) (zero-words ws (and_right (same (pos 0) w) _ e))

pub rules-count : (n : ℕ) (ws : List ℤ) → length (rules_at n ws) ≡ n
rules-count zero ws = refl
rules-count (suc n) ws = ap suc (rules-count n (drop (size_at ws) ws))

pub rules-formed : (n : ℕ) (ws : List ℤ) → sound_rules n ws ≡ true → (r : InputRule) → r ∈ rules_at n ws → Formed r
rules-formed zero ws e r i = elim i [ ]
rules-formed (suc n) ws e r (Memᴰ.head p) = rw p (rule-formed ws (and_left (sound_at ws) _ e))
rules-formed (suc n) ws e r (Memᴰ.tail i) = rules-formed n (drop (size_at ws) ws) (and_right (sound_at ws) _ e) r i

pub rules-words : (n : ℕ) (ws : List ℤ) → sound_rules n ws ≡ true → (k : ℕ) × (ws ≡ program_words (rules_at n ws) ++ replicate k (pos 0))
rules-words zero ws e = (length ws, zero-words ws e)
rules-words (suc n) ws e =
    let r = rule_words (rule_at ws) in
    let t = drop (size_at ws) ws in
    let i = rules-words n t (and_right (sound_at ws) _ e) in
    let z = replicate i.0 (pos 0) in
    (i.0, front-words ws (and_left (sound_at ws) _ e) ∙ ap (λ (l : List ℤ). r ++ l) i.1 ∙ sym (append_assoc r (program_words (rules_at n t)) z))

module _ (table : List ℤ) (rules : ℕ) (s : sound_table table rules ≡ true) where
  abbrev rs : List InputRule
  rs = rules_at rules table

  abbrev held : (k : ℕ) × (table ≡ program_words rs ++ replicate k (pos 0))
  held = rules-words rules table (sound-rules table rules s)

  long : length table ≡ length (program_words rs) + held.0
  long = ap length held.1 ∙ length-append (program_words rs) (replicate held.0 (pos 0)) ∙ ap (λ (n : ℕ). length (program_words rs) + n) (length-replicate held.0 (pos 0))

  pub table-words : table ≡ table_words (length table) rs
  table-words = let k : length table - length (program_words rs) ≡ held.0 = omega (arith, long) in rw k held.1

  pub table_fits : FitsTable (length table) rs
  table_fits =
      record {
        formed = rules-formed rules table (sound-rules table rules s);
        few = rw (rules-count rules table) (few-rules table rules s);
        room = omega (arith, long);
      }

  read_as : ReadAs table rules rs
  read_as = record { text = program_text rs; read = written_read (length table) rs table_fits; count = rules-count rules table; words = table-words }

pub table-read : TableRead
table-read table rules rs = (there, back)
  where
    there : rules_of table rules ≡ some rs → ReadAs table rules rs
    there e = let p = rules-of table rules rs e in subst (ReadAs table rules) p.1 (read_as table rules p.0)

    back : ReadAs table rules rs → rules_of table rules ≡ some rs
    back a =
        ap₂ rules_of a.words (sym a.count) ∙ table-back (length table) rs (read_fits (length table) a.text rs a.read)
