-- A program whose rules pass the reader's tests is read from its text, its heads and bodies put in order: `taken-read`; one whose rules
-- are formed is read as it is, since its heads and bodies ascend already: `written_read`.
-- Assumes nothing.
use mathlib.Core.Path.{◌≡◌, refl, ◌∙◌, ap, ap₂}
use mathlib.Core.Bool.{Bool, true, false, not, ◌||◌}
use mathlib.Core.List.Memᴰ
use mathlib.Core.List.{List, [], ◌∷◌, ◌++◌, map, append-nil}
use mathlib.Core.Logic.{inl, inr}
use Prim.Native.Nat.{ℕ, zero, suc, ◌+◌, ◌*◌, ◌-◌, ◌≤◌, ◌<◌}
use native.Mathlib.Omega.{arith}
use borrow.Author.Tests.{ltb-true, lt-ltb, le-ltb, le-leb, eq-eqb, ne_eqb}
use lib.Dec.{ltb}
use lib.IntN.{ℤ, pos}
use lib.ListN.{length, take, drop, get_or, length-append, length-map}
use lib.Seq.{take-append_seam, drop-append_seam, drop-append-add, get_or-append-add, take-length, append_snoc}
use Rattle.words.specs.Limits.{longest, largest, most_literals, most_rules}
use Rattle.words.specs.Lists.{◌∈◌}
use Rattle.words.specs.Literals.{variable, rising, insert, insert_all, ascending}
use Rattle.text.specs.Line.{numbers, line_of, outside, any_outside}
use Rattle.text.proofs.Lines.{bounds_of}
use Rattle.text.proofs.Decimals.{line_bytes, line_read}
use Rattle.weights.specs.Weights.{Weighted, literals, paired, pair_words, most_weight, most_weighted}
use Rattle.weights.proofs.Matching.{paired_words}
use Rattle.weights.proofs.Reordered.{rising-distinct}
use Rattle.aspif.specs.Rules.{Body, plain, weights, InputRule, literals_of, suits, kind_word, rule_words, program_words}
use Rattle.aspif.specs.Reading.{suited, ranged, body_within, head_within, shape_within, arranged, heads_good, body_good, reads, rule_with, rule_of, adds, is_last, turn_within, lines_within, program, header, read_lines_within, read_lines, read_text_within, read_text}
use Rattle.aspif.specs.declared.Kind.{Kind}
use Rattle.aspif.specs.declared.Kind.TheVariants.{Normal, Choice}
use Rattle.aspif.specs.declared.rules.Shape.{Shape}
use Rattle.aspif.specs.declared.rules.Shape.TheVariants.{Shaped, Weighed}
use Rattle.words.proofs.Lists.{is_true, or-false-left, or-false-right, and_left, and_right, and_both}
use Rattle.aspif.proofs.PairWords.{is-up-to, Light, light-decides, length_pairs, arranged-same}
use Rattle.aspif.specs.Claims.{WeighingWithin, FormedWithin}
use Rattle.aspif.proofs.Formed.{FitsTable, words_append, lines-on}
use Rattle.aspif.specs.Text.{body_numbers, rule_numbers, rule_text, rules_text, program_text}
use Rattle.aspif.proofs.Spelled.{sorted_body, sorted_rule, rule-line, last_line}
use Rattle.std.specs.Prelude.{Result, Ok}
use Rattle.aspif.specs.declared.ProgramFault.{ProgramFault}

module _ (k : Kind) (hs back : List ℤ) where
  abbrev zs : List ℤ
  zs = pos 1 ∷ kind_word k ∷ pos (length hs) ∷ (hs ++ back)

  abbrev front : List ℤ
  front = pos 1 ∷ kind_word k ∷ pos (length hs) ∷ hs

  count : length zs ≡ 3 + length hs + length back
  count = omega (arith, length-append hs back)

  -- number i after the heads
  back_at : (i j : ℕ) → j ≡ length front + i → get_or zs j (pos 0) ≡ get_or back i (pos 0)
  back_at i j e = rw e (get_or-append-add front back i (pos 0))

  back_from : (i j : ℕ) → j ≡ length front + i → drop j zs ≡ drop i back
  back_from i j e = rw e (drop-append-add front back i)

  the-heads : take (length hs) (drop 3 zs) ≡ hs
  the-heads = take-append_seam hs back

  head-is : (most : ℕ) → length hs ≤ most_literals → head_within most zs (length zs) k ≡ body_within most zs (length zs) k (length hs)
  head-is most few =
      let n = count in
      rw (lt-ltb 2 (length zs) (omega arith), is-up-to most_literals (length hs) few, le-leb (3 + length hs) (length zs) (omega arith))

shape_is : (most : ℕ) (k : Kind) (hs back : List ℤ) → length hs ≤ most_literals
    → shape_within most (zs k hs back) (length (zs k hs back)) ≡ body_within most (zs k hs back) (length (zs k hs back)) k (length hs)
unfolding shape_within
shape_is most Normal hs back f =
    let n = count Normal hs back in
    rw (lt-ltb 0 (length (zs Normal hs back)) (omega arith), lt-ltb 1 (length (zs Normal hs back)) (omega arith)) (head-is Normal hs back most f)
shape_is most Choice hs back f =
    let n = count Choice hs back in
    rw (lt-ltb 0 (length (zs Choice hs back)) (omega arith), lt-ltb 1 (length (zs Choice hs back)) (omega arith)) (head-is Choice hs back most f)

module _ (k : Kind) (hs ls : List ℤ) where
  abbrev after-plain : List ℤ
  after-plain = body_numbers (plain ls)

  abbrev plain-line : List ℤ
  plain-line = zs k hs after-plain

  the-body : take (length ls) (drop (5 + length hs) plain-line) ≡ ls
  the-body = rw (back_from k hs after-plain 2 (5 + length hs) (omega arith)) (take-length ls)

  plain-is : (most : ℕ) → length ls ≤ most_literals
      → body_within most plain-line (length plain-line) k (length hs) ≡ suited k (length hs) (Ok (Shaped k (length hs) (length ls)))
  plain-is most short =
      let n = count k hs after-plain in
      let e = back_at k hs after-plain 0 (3 + length hs) (omega arith) in
      let c = back_at k hs after-plain 1 (4 + length hs) (omega arith) in
      let p = lt-ltb (3 + length hs) (length plain-line) (omega arith) in
      let q = lt-ltb (4 + length hs) (length plain-line) (omega arith) in
      rw (e, c, p, q, is-up-to most_literals (length ls) short, eq-eqb (5 + length hs + length ls) (length plain-line) (omega arith))

module _ (k : Kind) (hs : List ℤ) (bound : ℕ) (l : List Weighted) where
  abbrev after-weighed : List ℤ
  after-weighed = body_numbers (weights bound l)

  abbrev weighed-line : List ℤ
  weighed-line = zs k hs after-weighed

  the_bound : get_or weighed-line (4 + length hs) (pos 0) ≡ pos bound
  the_bound = back_at k hs after-weighed 1 (4 + length hs) (omega arith)

  the-pairs : take (2 * length l) (drop (6 + length hs) weighed-line) ≡ pair_words l
  the-pairs = rw (back_from k hs after-weighed 3 (6 + length hs) (omega arith), ← length_pairs l) (take-length (pair_words l))

  module _ (most : ℕ) (f : WeighingWithin most (weights bound l)) where
    in-range : ranged weighed-line (length hs) (length l) ≡ true
    unfolding ranged
    in-range = rw (the_bound, is-up-to most_weight bound f.1, the-pairs) (is_true (light-decides l) f.2)

    weighed-is : length l ≤ most_literals → body_within most weighed-line (length weighed-line) k (length hs) ≡ suited k (length hs) (Ok (Weighed k (length hs) (length l)))
    weighed-is short =
        let n = count k hs after-weighed in
        let m = length_pairs l in
        let e = back_at k hs after-weighed 0 (3 + length hs) (omega arith) in
        let c = back_at k hs after-weighed 2 (5 + length hs) (omega arith) in
        let p = lt-ltb (3 + length hs) (length weighed-line) (omega arith) in
        let q = lt-ltb (5 + length hs) (length weighed-line) (omega arith) in
        let r = is-up-to most_literals (length l) short in
        rw (e, c, p, q, r, eq-eqb (6 + length hs + 2 * length l) (length weighed-line) (omega arith), in-range, le-leb (length l) most f.0)

outside-append : (k l : List ℤ) → any_outside k ≡ false → any_outside l ≡ false → any_outside (k ++ l) ≡ false
outside-append [] l e f = f
outside-append (z ∷ k) l e f = by (outside z) e (λ p. outside-append k l p f)
  where
    by : (b : Bool) → (b || any_outside k) ≡ false → (any_outside k ≡ false → any_outside (k ++ l) ≡ false) → (b || any_outside (k ++ l)) ≡ false
    by true p g = p
    by false p g = g p

kind-in : (k : Kind) → outside (kind_word k) ≡ false
kind-in Normal = refl
kind-in Choice = refl

-- literals inside make pairs inside
pairs-in : (l : List Weighted) → Light l → any_outside (literals l) ≡ false → any_outside (pair_words l) ≡ false
pairs-in [] h e = refl
pairs-in (x ∷ l) h e =
    rw (or-false-left (outside x.literal) _ e, le-ltb largest x.weight (omega (arith, h x (Memᴰ.head refl))))
    (pairs-in l (λ y m. h y (Memᴰ.tail m)) (or-false-right (outside x.literal) _ e))

body-numbers-in : (most : ℕ) (b : Body) → WeighingWithin most b → length (literals_of b) ≤ most_literals
    → any_outside (literals_of b) ≡ false → any_outside (body_numbers b) ≡ false
body-numbers-in most (plain ls) w f e = rw (le-ltb largest (length ls) (omega arith)) e
body-numbers-in most (weights b l) w f e =
    rw (le-ltb largest b (omega (arith, w.1)), le-ltb largest (length l) (omega (arith, f, length-map l (λ x. x.literal)))) (pairs-in l w.2 e)

-- what suits its kind stays as it is
suited-is : (k : Kind) (h : ℕ) (x : Result Shape ProgramFault) → suits k h ≡ true → suited k h x ≡ x
suited-is k h x e = rw e

-- A rule that passes questions 4 to 8, 54 and 55, by the reader's tests
pub record PassesWithin (most : ℕ) (r : InputRule) : Type 0 where
  pub heads-few : length r.heads ≤ most_literals
  pub body-few : length (literals_of r.body) ≤ most_literals
  pub headed : suits r.kind (length r.heads) ≡ true
  pub heads-good : heads_good r.heads ≡ true
  pub body-good : body_good (literals_of r.body) ≡ true
  pub heads-in : any_outside r.heads ≡ false
  pub body-in : any_outside (literals_of r.body) ≡ false
  pub weighing : WeighingWithin most r.body

good-is : (most : ℕ) (r : InputRule) → PassesWithin most r → rule_with r.kind r.heads (literals_of r.body) (sorted_body r.body) ≡ reads (sorted_rule r)
good-is most r f = rw (f.heads-good, f.body-good)

module _ (most : ℕ) (k : Kind) (hs : List ℤ) where
  -- a line whose body has been read
  abbrev Back : Body → Type 0
  Back body =
      let line = zs k hs (body_numbers body) in
      rule_of line (body_within most line (length line) k (length hs)) ≡ reads (sorted_rule (record { kind = k; heads = hs; body = body }))

  body_back : (body : Body) → PassesWithin most (record { kind = k; heads = hs; body = body }) → Back body
  body_back (plain ls) f =
      let sh = plain-is k hs ls most f.body-few ∙ suited-is k (length hs) (Ok (Shaped k (length hs) (length ls))) f.headed in
      ap (rule_of (plain-line k hs ls)) sh
      ∙ ap₂ (λ h l. rule_with k h l (plain (ascending l))) (the-heads k hs (after-plain k hs ls)) (the-body k hs ls)
      ∙ good-is most (record { kind = k; heads = hs; body = plain ls }) f
  body_back (weights b l) f =
      let line = weighed-line k hs b l in
      let bound = get_or line (4 + length hs) (pos 0) in
      let sh = weighed-is k hs b l most f.weighing (omega (arith, f.body-few, length-map l (λ x. x.literal))) ∙ suited-is k (length hs) (Ok (Weighed k (length hs) (length l))) f.headed in
      let e : paired (take (2 * length l) (drop (6 + length hs) line)) ≡ l = ap paired (the-pairs k hs b l) ∙ paired_words l in
      ap (rule_of line) sh
      ∙ ap₂ (λ h p. rule_with k h (literals p) (weights (variable bound) (arranged p))) (the-heads k hs (after-weighed k hs b l)) e
      ∙ ap (λ n. rule_with k hs (literals l) (weights (variable n) (arranged l))) (the_bound k hs b l)
      ∙ good-is most (record { kind = k; heads = hs; body = weights b l }) f

module _ (most : ℕ) (r : InputRule) (f : PassesWithin most r) where
  abbrev line : List ℤ
  line = pos 1 ∷ rule_numbers r

  line-in : any_outside line ≡ false
  line-in =
      rw (kind-in r.kind, le-ltb largest (length r.heads) (omega (arith, f.heads-few)))
      (outside-append r.heads (body_numbers r.body) f.heads-in (body-numbers-in most r.body f.weighing f.body-few f.body-in))

  not_last : is_last line ≡ false
  not_last = let n = count r.kind r.heads (body_numbers r.body) in rw (ne_eqb (length line) 1 (λ e. omega arith))

  rule-is : rule_of line (shape_within most line (length line)) ≡ reads (sorted_rule r)
  rule-is = rw (shape_is most r.kind r.heads (body_numbers r.body) f.heads-few) (body_back most r.kind r.heads r.body f)

  turn_is : (rules free left n : ℕ) → rules < most_rules → length (rule_words (sorted_rule r)) ≤ free → turn_within most rules free left (numbers line n) ≡ adds (sorted_rule r) n
  turn_is rules free left n p q = rw (line-in, not_last, rule-is, lt-ltb rules most_rules p, le-leb (length (rule_words (sorted_rule r))) free q)

-- A program's text

some_bytes : (r : InputRule) → 0 < length (rule_text r)
some_bytes r = rw (rule-line r) (bounds_of (line_bytes (pos 1) (rule_numbers r) ++ []) (pos 1 ∷ rule_numbers r) (length (line_bytes (pos 1) (rule_numbers r))) (line_read (pos 1) (rule_numbers r) [])).0

more_bytes : (rs : List InputRule) → length rs < length (rules_text rs)
unfolding rules_text
more_bytes [] = omega arith
more_bytes (r ∷ rs) = omega (arith, some_bytes r, more_bytes rs, length-append (rule_text r) (rules_text rs))

last-read : line_of (rules_text []) ≡ numbers (pos 0 ∷ []) (length (rules_text []))
last-read = rw last_line (rw (append-nil (line_bytes (pos 0) [])) at (line_read (pos 0) [] []))

first_read : (r : InputRule) (t : List ℕ) → line_of (rule_text r ++ t) ≡ numbers (pos 1 ∷ rule_numbers r) (length (rule_text r))
first_read r t = rw (rule-line r) (line_read (pos 1) (rule_numbers r) t)

-- rules that pass, and whose words fit beside those before them
pub record FitsAfter (most size : ℕ) (before ws : List InputRule) : Type 0 where
  pub passes : (w : InputRule) → w ∈ ws → PassesWithin most w
  pub few : length before + length ws ≤ most_rules
  pub room : length (program_words before) + length (program_words (map sorted_rule ws)) ≤ size

-- what they are at 12
abbrev pub Passes : InputRule → Type 0
Passes = PassesWithin most_weighted

abbrev pub Fits : (size : ℕ) (before ws : List InputRule) → Type 0
Fits = FitsAfter most_weighted

module _ (most size : ℕ) where
  lines-taken : (ws before : List InputRule) (turns line : ℕ) → FitsAfter most size before ws → length ws < turns → lines_within most size turns (rules_text ws) line before ≡ program (before ++ map sorted_rule ws)
  unfolding lines_within rules_text
  lines-taken ws before zero line f h = absurd (omega arith)
  lines-taken [] before (suc turns) line f h =
      lines-on most size turns (rules_text []) line before ∙ rw (append-nil before, last-read)
  lines-taken (r ∷ rs) before (suc turns) line f h =
      let x = sorted_rule r in
      let free = size - length (program_words before) in
      let left = length (rule_text r ++ rules_text rs) in
      let g = f.passes r (Memᴰ.head refl) in
      let a = length-append (rule_words x) (program_words (map sorted_rule rs)) in
      let p : length before < most_rules = omega (arith, f.few) in
      let q : length (rule_words x) ≤ free = omega (arith, f.room, a) in
      let t : turn_within most (length before) free left (line_of (rule_text r ++ rules_text rs)) ≡ adds x (length (rule_text r)) =
      ap (turn_within most (length before) free left) (first_read r (rules_text rs)) ∙ turn_is most r g (length before) free left (length (rule_text r)) p q in
      let m : FitsAfter most size (before ++ (x ∷ [])) rs =
      record {
        passes = λ w i. f.passes w (Memᴰ.tail i);
        few = omega (arith, f.few, length-append before (x ∷ []));
        room = omega (arith, f.room, a, ap length (words_append before (x ∷ [])), length-append (program_words before) (program_words (x ∷ [])), length-append (rule_words x) []);
      } in
      lines-on most size turns (rule_text r ++ rules_text rs) line before
      ∙ rw (t, drop-append_seam (rule_text r) (rules_text rs)) (lines-taken rs (before ++ (x ∷ [])) turns (line + 1) m (omega arith) ∙ ap program (append_snoc before x (map sorted_rule rs)))

  pub within-lines : (ws : List InputRule) → FitsAfter most size [] ws → read_lines_within most size (program_text ws) ≡ program (map sorted_rule ws)
  unfolding read_lines_within program_text
  within-lines ws f =
      lines-taken ws [] (suc (length (program_text ws))) 2 f (omega (arith, more_bytes ws, length-append header (rules_text ws)))

  pub within-read : (ws : List InputRule) → FitsAfter most size [] ws → length (program_text ws) ≤ longest
      → read_text_within most size (program_text ws) ≡ program (map sorted_rule ws)
  unfolding read_text_within
  within-read ws f h = rw (le-leb (length (program_text ws)) longest h) (within-lines ws f)

pub taken-read : (size : ℕ) (ws : List InputRule) → Fits size [] ws → length (program_text ws) ≤ longest → read_text size (program_text ws) ≡ program (map sorted_rule ws)
unfolding read_text
taken-read size ws f h = within-read most_weighted size ws f h

-- Words that rise are in order

-- no variable is above v
abbrev Under : ℕ → List ℤ → Type 0
Under v l = (y : ℤ) → y ∈ l → variable y ≤ v

insert-last : (x : ℤ) (l : List ℤ) → Under (variable x) l → insert x l ≡ l ++ (x ∷ [])
unfolding insert
insert-last x [] u = refl
insert-last x (y ∷ l) u =
    rw (le-ltb (variable x) (variable y) (u y (Memᴰ.head refl))) (ap (λ (k : List ℤ). y ∷ k) (insert-last x l (λ z i. u z (Memᴰ.tail i))))

insert-rising : (acc : List ℤ) (x : ℤ) (l : List ℤ) → Under (variable x) acc → rising (x ∷ l) ≡ true → insert_all acc (x ∷ l) ≡ acc ++ (x ∷ l)
unfolding insert_all
insert-rising acc x [] u e = insert-last x acc u
insert-rising acc x (y ∷ l) u e =
    let h = ltb-true (variable x) (variable y) (and_left _ _ e) in
    rw (insert-last x acc u) (insert-rising (acc ++ (x ∷ [])) y l (next h) (and_right (ltb (variable x) (variable y)) _ e) ∙ append_snoc acc x (y ∷ l))
  where
    next : variable x < variable y → Under (variable y) (acc ++ (x ∷ []))
    next h z i = elim (Memᴰ.append_cases acc i) [
      | inl j ↦ let k = u z j in omega arith
      | inr j ↦ rw (Memᴰ.eq_of_singleton j) (omega arith)
    ]

pub in_order : (l : List ℤ) → rising l ≡ true → ascending l ≡ l
unfolding insert_all
in_order [] e = refl
in_order (x ∷ l) e = insert-rising [] x l (λ y i. elim i [ ]) e

-- Rules that are formed

formed-passes : {most : ℕ} (r : InputRule) → FormedWithin most r → PassesWithin most r
formed-passes r f =
    record {
      heads-few = f.heads-few;
      body-few = f.body-few;
      headed = f.headed;
      heads-good = and_both f.positive (rising-distinct r.heads f.heads-rise);
      body-good = and_both (ap not f.nonzero) (rising-distinct (literals_of r.body) f.body-rise);
      heads-in = f.heads-in;
      body-in = f.body-in;
      weighing = f.weighing;
    }

same_body : (b : Body) → rising (literals_of b) ≡ true → sorted_body b ≡ b
same_body (plain ls) e = ap plain (in_order ls e)
same_body (weights b l) e = ap (weights b) (arranged-same l (rising-distinct (literals l) e) (in_order (literals l) e))

same-rule : {most : ℕ} (r : InputRule) → FormedWithin most r → sorted_rule r ≡ r
same-rule r f =
    ap₂ (λ (h : List ℤ) (b : Body). record { kind = r.kind; heads = h; body = b }) (in_order r.heads f.heads-rise) (same_body r.body f.body-rise)

same-rules : {most : ℕ} (rs : List InputRule) → ((r : InputRule) → r ∈ rs → FormedWithin most r) → map sorted_rule rs ≡ rs
same-rules [] f = refl
same-rules (r ∷ rs) f =
    ap₂ (λ (x : InputRule) (l : List InputRule). x ∷ l) (same-rule r (f r (Memᴰ.head refl))) (same-rules rs (λ s i. f s (Memᴰ.tail i)))

-- a program that is formed and fits is read from its text
pub written_read : (size : ℕ) (rs : List InputRule) → FitsTable size rs → read_lines size (program_text rs) ≡ program rs
unfolding read_lines
written_read size rs f =
    let e = same-rules rs f.formed in
    within-lines most_weighted size rs (record { passes = λ r i. formed-passes r (f.formed r i); few = omega (arith, f.few); room = rw e (omega (arith, f.room)) })
    ∙ ap program e
