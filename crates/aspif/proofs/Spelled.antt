-- A text that is read is the text of some rules, and what is read are those rules with heads and bodies put in order: `read-spelled`.
-- Assumes nothing.
use mathlib.Core.Path.{◌≡◌, refl, sym, ◌∙◌, ap, ap₂}
use mathlib.Core.Bool.{Bool, true, false, cond, not, ◌&&◌}
use mathlib.Core.List.{List, [], ◌∷◌, ◌++◌, map, append-nil}
use Prim.Native.Nat.{ℕ, zero, suc, ◌+◌, ◌*◌, ◌-◌, ◌≤◌, ◌<◌}
use native.Mathlib.Omega.{arith}
use borrow.Author.Tests.{eqb-true}
use lib.Dec.{eqb, ltb, leb}
use lib.IntN.{ℤ, pos}
use lib.ListN.{length, take, drop, get_or, length-append, length-drop, take-append-drop}
use lib.Seq.{drop-cons, drop-drop, take_all, drop-append_seam, append_snoc}
use Rattle.words.specs.Limits.{longest, most_literals, most_rules}
use Rattle.words.specs.Lists.{◌∈◌}
use Rattle.words.specs.Literals.{variable, same, has, distinct, ascending}
use Rattle.words.proofs.Lists.{zero_one, if-true, and_left, and_right, by-test, each-cons}
use Rattle.words.proofs.Literals.{same-decides}
use Rattle.text.specs.Decimals.{decimals, decimal, number_bytes, spaced}
use Rattle.text.specs.Line.{Line, broken, numbers, line_of, any_outside}
use Rattle.text.specs.Strings.{starts_with}
use Rattle.text.proofs.Decimals.{rest, line_bytes, line_read, rest-spaced}
use Rattle.text.proofs.Spelling.{line-spelled}
use Rattle.weights.specs.Weights.{paired, pair_words, most_weight, most_weighted}
use Rattle.aspif.specs.Rules.{Body, plain, weights, InputRule, literals_of, suits, is_weight, kind_word, rule_words, program_words}
use Rattle.aspif.specs.Reading.{suited, all_weights, ranged, few_within, is_at, is_count_at, plain_shape, weighed_within, body_within, head_within, shape_within, heads_good, body_good, arranged, RuleRead, fails, reads, rule_with, rule_of, Turn, refuses, ends, adds, is_last, room, turn_within, lines_within, refused, program, header, read_lines_within, read_text_within, read_text}
use Rattle.aspif.specs.declared.Kind.{Kind}
use Rattle.aspif.specs.declared.Kind.TheVariants.{Normal, Choice}
use Rattle.aspif.specs.declared.rules.Shape.{Shape}
use Rattle.aspif.specs.declared.rules.Shape.TheVariants.{Shaped, Weighed}
use Rattle.aspif.proofs.PairWords.{up_to, words-paired, length-paired}
use Rattle.aspif.proofs.Formed.{part_length, onward}
use Rattle.aspif.specs.Text.{rule_numbers, rule_text, rules_text, program_text}
use Rattle.std.specs.Prelude.{Result, Ok, Err}
use Rattle.aspif.specs.declared.ProgramFault.TheVariants.{TooLong, NoHeader, WrongKind, WrongCount, UnsuitedHeads, WrongLiterals, WeightOutOfRange, TooManyWeights}
use Rattle.aspif.specs.declared.ProgramFault.{ProgramFault}

-- Rules put in order

abbrev pub sorted_body : Body → Body
sorted_body (plain ls) = plain (ascending ls)
sorted_body (weights b ps) = weights b (arranged ps)

abbrev pub sorted_rule : InputRule → InputRule
sorted_rule r = record { kind = r.kind; heads = ascending r.heads; body = sorted_body r.body }

-- question 8 of a body: no atom twice
abbrev pub Once : InputRule → Type 0
Once r = distinct (literals_of r.body) ≡ true

-- One line's numbers

module _ (zs : List ℤ) where
  -- the line is a rule's, and what is read is that rule in order
  abbrev pub Spelt : RuleRead → Type 0
  Spelt (fails k) = Unit {0}
  Spelt (reads s) = (r : InputRule) × (zs ≡ pos 1 ∷ rule_numbers r) × (sorted_rule r ≡ s) × Once r

  abbrev ShapeSpelt : (Result Shape ProgramFault) → Type 0
  ShapeSpelt x = Spelt (rule_of zs x)

  -- a shape where a test is passed, and a refusal with the number w where it is not
  or-wrong : (w : ProgramFault) (t : Bool) (x : Result Shape ProgramFault) → (t ≡ true → ShapeSpelt x) → ShapeSpelt (cond t x (Err w))
  or-wrong w t x f = by-test ShapeSpelt t f (λ e. tt)

  with-spelt : (r : InputRule) → zs ≡ pos 1 ∷ rule_numbers r → Spelt (rule_with r.kind r.heads (literals_of r.body) (sorted_body r.body))
  with-spelt r q = by (heads_good r.heads) (body_good (literals_of r.body)) refl
    where
      by : (a b : Bool) → body_good (literals_of r.body) ≡ b → Spelt (cond (a && b) (reads (sorted_rule r)) (fails WrongLiterals))
      by true true e = (r, q, refl, and_right (not (has (pos 0) (literals_of r.body))) (distinct (literals_of r.body)) e)
      by true false e = tt
      by false b e = tt

  -- number i and those after it
  one_on : (i j : ℕ) (z : ℤ) → get_or zs i (pos 0) ≡ z → i < length zs → j ≡ suc i → drop i zs ≡ z ∷ drop j zs
  one_on i j z e h n = drop-cons zs i (pos 0) h ∙ ap₂ (λ (x : ℤ) (m : ℕ). x ∷ drop m zs) e (sym n)

  module _ (k : Kind) (h : ℕ) where
    abbrev hs : List ℤ
    hs = take h (drop 3 zs)

    -- what stands before the body
    pub record Front : Type 0 where
      pub one : get_or zs 0 (pos 0) ≡ pos 1
      pub kind : get_or zs 1 (pos 0) ≡ kind_word k
      pub count : get_or zs 2 (pos 0) ≡ pos h

    front-is : Front → 3 + h ≤ length zs → (back : List ℤ) → drop (3 + h) zs ≡ back → zs ≡ pos 1 ∷ kind_word k ∷ pos (length hs) ∷ (hs ++ back)
    front-is f l back e =
        one_on 0 1 (pos 1) f.one (omega arith) refl
        ∙ ap (λ (m : List ℤ). pos 1 ∷ m)
        (one_on 1 2 (kind_word k) f.kind (omega arith) refl
        ∙ ap (λ (m : List ℤ). kind_word k ∷ m)
        (one_on 2 3 (pos h) f.count (omega arith) refl
        ∙ ap₂ (λ (n : ℕ) (m : List ℤ). pos n ∷ m) (sym (part_length h 3 zs l))
        (sym (take-append-drop h (drop 3 zs)) ∙ ap (λ (m : List ℤ). hs ++ m) (drop-drop h 3 zs ∙ e))))

    module _ (f : Front) where
      plain-spelt : (b : ℕ) → get_or zs (3 + h) (pos 0) ≡ pos 0 → get_or zs (4 + h) (pos 0) ≡ pos b → 5 + h + b ≡ length zs → ShapeSpelt (Ok (Shaped k h b))
      plain-spelt b e c n =
          let ls = take b (drop (5 + h) zs) in
          let all : drop (5 + h) zs ≡ ls = sym (take_all b (drop (5 + h) zs) (omega (arith, length-drop (5 + h) zs))) in
          let many = part_length b (5 + h) zs (omega arith) in
          let back : drop (3 + h) zs ≡ pos 0 ∷ pos (length ls) ∷ ls =
          one_on (3 + h) (4 + h) (pos 0) e (omega arith) (omega arith)
          ∙ ap (λ (m : List ℤ). pos 0 ∷ m)
          (one_on (4 + h) (5 + h) (pos b) c (omega arith) (omega arith) ∙ ap₂ (λ (x : ℕ) (m : List ℤ). pos x ∷ m) (sym many) all) in
          with-spelt (record { kind = k; heads = hs; body = plain ls }) (front-is f (omega arith) (pos 0 ∷ pos (length ls) ∷ ls) back)

      weighed-spelt : (b : ℕ) → get_or zs (3 + h) (pos 0) ≡ pos 1 → get_or zs (5 + h) (pos 0) ≡ pos b → 6 + h + 2 * b ≡ length zs → ranged zs h b ≡ true → ShapeSpelt (Ok (Weighed k h b))
      unfolding ranged
      weighed-spelt b e c n r =
          let ws = take (2 * b) (drop (6 + h) zs) in
          let bound = get_or zs (4 + h) (pos 0) in
          let light : all_weights ws ≡ true = and_right (is_weight bound) (all_weights ws) r in
          let is_bound = (up_to most_weight bound (and_left (is_weight bound) (all_weights ws) r)).0 in
          let all : drop (6 + h) zs ≡ ws = sym (take_all (2 * b) (drop (6 + h) zs) (omega (arith, length-drop (6 + h) zs))) in
          let many : length (paired ws) ≡ b = omega (arith, length-paired ws light, part_length (2 * b) (6 + h) zs (omega arith)) in
          let back : drop (3 + h) zs ≡ pos 1 ∷ pos (variable bound) ∷ pos (length (paired ws)) ∷ pair_words (paired ws) =
          one_on (3 + h) (4 + h) (pos 1) e (omega arith) (omega arith)
          ∙ ap (λ (m : List ℤ). pos 1 ∷ m)
          (one_on (4 + h) (5 + h) (pos (variable bound)) is_bound (omega arith) (omega arith)
          ∙ ap (λ (m : List ℤ). pos (variable bound) ∷ m)
          (one_on (5 + h) (6 + h) (pos b) c (omega arith) (omega arith)
          ∙ ap₂ (λ (x : ℕ) (m : List ℤ). pos x ∷ m) (sym many) (all ∙ sym (words-paired ws light)))) in
          with-spelt (record { kind = k; heads = hs; body = weights (variable bound) (paired ws) })
          (front-is f (omega arith) (pos 1 ∷ pos (variable bound) ∷ pos (length (paired ws)) ∷ pair_words (paired ws)) back)

  -- The shape of a line, question by question

  is-at : (n i : ℕ) (z : ℤ) → is_at zs n i z ≡ true → get_or zs i (pos 0) ≡ z
  is-at n i z e = if-true (same-decides (get_or zs i (pos 0)) z) (and_right (ltb i n) (same (get_or zs i (pos 0)) z) e)

  is-count : (n i : ℕ) → is_count_at zs n i ≡ true → get_or zs i (pos 0) ≡ pos (variable (get_or zs i (pos 0)))
  is-count n i e = (up_to most_literals (get_or zs i (pos 0)) (and_right (ltb i n) _ e)).0

  abbrev n : ℕ
  n = length zs

  module _ (k : Kind) (h : ℕ) (f : Front k h) where
    suited-spelt : (x : Result Shape ProgramFault) → ShapeSpelt x → ShapeSpelt (suited k h x)
    suited-spelt x p = or-wrong UnsuitedHeads (suits k h) x (λ e. p)

    plain-shape : is_at zs n (3 + h) (pos 0) ≡ true → ShapeSpelt (plain_shape zs n k h)
    plain-shape a =
        let b = variable (get_or zs (4 + h) (pos 0)) in
        or-wrong WrongCount (is_count_at zs n (4 + h) && eqb (5 + h + b) n) (suited k h (Ok (Shaped k h b)))
        (λ e.
        suited-spelt (Ok (Shaped k h b))
        (plain-spelt k h f b (is-at n (3 + h) (pos 0) a) (is-count n (4 + h) (and_left (is_count_at zs n (4 + h)) _ e))
        (eqb-true (5 + h + b) n (and_right (is_count_at zs n (4 + h)) _ e))))

    weighed-shape : (most : ℕ) → is_at zs n (3 + h) (pos 1) ≡ true → ShapeSpelt (weighed_within most zs n k h)
    weighed-shape most a =
        let b = variable (get_or zs (5 + h) (pos 0)) in
        or-wrong WrongCount (is_count_at zs n (5 + h) && eqb (6 + h + 2 * b) n) (few_within most zs k h b)
        (λ e.
        or-wrong WeightOutOfRange (ranged zs h b) (cond (leb b most) (suited k h (Ok (Weighed k h b))) (Err TooManyWeights))
        (λ r.
        or-wrong TooManyWeights (leb b most) (suited k h (Ok (Weighed k h b)))
        (λ l.
        suited-spelt (Ok (Weighed k h b))
        (weighed-spelt k h f b (is-at n (3 + h) (pos 1) a) (is-count n (5 + h) (and_left (is_count_at zs n (5 + h)) _ e))
        (eqb-true (6 + h + 2 * b) n (and_right (is_count_at zs n (5 + h)) _ e)) r))))

    body-shape : (most : ℕ) → ShapeSpelt (body_within most zs n k h)
    body-shape most =
        by-test ShapeSpelt (is_at zs n (3 + h) (pos 0)) plain-shape (λ e. or-wrong WrongKind (is_at zs n (3 + h) (pos 1)) (weighed_within most zs n k h) (weighed-shape most))

  head-shape : (most : ℕ) (k : Kind) → get_or zs 0 (pos 0) ≡ pos 1 → get_or zs 1 (pos 0) ≡ kind_word k → ShapeSpelt (head_within most zs n k)
  head-shape most k a b =
      let h = variable (get_or zs 2 (pos 0)) in
      or-wrong WrongCount (is_count_at zs n 2 && leb (3 + h) n) (body_within most zs n k h)
      (λ e. body-shape k h (record { one = a; kind = b; count = is-count n 2 (and_left (is_count_at zs n 2) _ e) }) most)

  pub shape-spelt : (most : ℕ) → Spelt (rule_of zs (shape_within most zs (length zs)))
  unfolding shape_within
  shape-spelt most =
      or-wrong WrongKind (is_at zs n 0 (pos 1)) (cond (is_at zs n 1 (pos 0)) (head_within most zs n Normal) (cond (is_at zs n 1 (pos 1)) (head_within most zs n Choice) (Err WrongKind)))
      (λ e.
      by-test ShapeSpelt (is_at zs n 1 (pos 0)) (λ f. head-shape most Normal (is-at n 0 (pos 1) e) (is-at n 1 (pos 0) f))
      (λ g. or-wrong WrongKind (is_at zs n 1 (pos 1)) (head_within most zs n Choice) (λ f. head-shape most Choice (is-at n 0 (pos 1) e) (is-at n 1 (pos 1) f))))

-- Lines

rest-is : (zs : List ℤ) → rest zs ≡ spaced zs ++ (10 ∷ [])
unfolding rest
rest-is zs = ap rest (sym (append-nil zs)) ∙ rest-spaced zs []

pub rule-line : (r : InputRule) → rule_text r ≡ line_bytes (pos 1) (rule_numbers r)
unfolding rule_text line_bytes number_bytes decimal decimals
rule-line r = ap (λ (l : List ℕ). 49 ∷ l) (sym (rest-is (rule_numbers r)))

pub last_line : rules_text [] ≡ line_bytes (pos 0) []
unfolding rules_text line_bytes number_bytes decimal decimals rest
last_line = refl

pub same_numbers : {zs ys : List ℤ} {m n : ℕ} → numbers zs m ≡ numbers ys n → (zs ≡ ys) × (m ≡ n)
same_numbers e = (cc, cc)

-- a line that is read is what the text begins with
line_taken : (s : List ℕ) (z : ℤ) (zs : List ℤ) (n : ℕ) → line_of s ≡ numbers (z ∷ zs) n → (s ≡ line_bytes z zs ++ drop n s) × (n ≡ length (line_bytes z zs))
line_taken s z zs n e =
    let q = line-spelled s z zs n e in
    let m = (same_numbers (sym e ∙ ap line_of q.1 ∙ line_read z zs q.0)).1 in
    let d : drop n s ≡ q.0 = ap₂ (λ (i : ℕ) (t : List ℕ). drop i t) m q.1 ∙ drop-append_seam (line_bytes z zs) q.0 in
    (q.1 ∙ ap (λ (l : List ℕ). line_bytes z zs ++ l) (sym d), m)

-- what the line that a text begins with makes of it
abbrev Turned : List ℕ → Turn → Type 0
Turned s (refuses k) = Unit {0}
Turned s ends = s ≡ rules_text []
Turned s (adds x n) = (r : InputRule) × (sorted_rule r ≡ x) × Once r × (s ≡ rule_text r ++ drop n s)

room-turned : (rules free : ℕ) (s : List ℕ) (zs : List ℤ) (n : ℕ) → line_of s ≡ numbers zs n → (x : RuleRead) → Spelt zs x → Turned s (room rules free x n)
room-turned rules free s zs n e (fails k) p = tt
room-turned rules free s zs n e (reads x) p =
    by-test (Turned s) (ltb rules most_rules)
    (λ f. by-test (Turned s) (leb (length (rule_words x)) free) (λ g. (p.0, p.2, p.3, taken)) (λ g. tt)) (λ f. tt)
  where
    taken : s ≡ rule_text p.0 ++ drop n s
    taken =
        (line_taken s (pos 1) (rule_numbers p.0) n (e ∙ ap (λ (l : List ℤ). numbers l n) p.1)).0
        ∙ ap (λ (l : List ℕ). l ++ drop n s) (sym (rule-line p.0))

-- the line `0` alone
is_zero : (zs : List ℤ) → is_last zs ≡ true → zs ≡ pos 0 ∷ []
is_zero [] e = absurd (zero_one (cc))
is_zero (z ∷ []) e = ap (λ (x : ℤ). x ∷ []) (if-true (same-decides z (pos 0)) e)
is_zero (z ∷ y ∷ zs) e = absurd (let q = eqb-true (length (z ∷ y ∷ zs)) 1 (and_left (eqb (length (z ∷ y ∷ zs)) 1) (same z (pos 0)) e) in omega arith)

nothing-after : {A : Type 0} (a l s : List A) → s ≡ a ++ l → length s ≡ length a → s ≡ a
nothing-after a [] s e n = e ∙ append-nil a
nothing-after a (x ∷ l) s e n = absurd (let m = ap length e in omega (arith, length-append a (x ∷ l)))

ending : (s : List ℕ) (zs : List ℤ) (n : ℕ) → line_of s ≡ numbers zs n → is_last zs ≡ true → n ≡ length s → s ≡ rules_text []
ending s zs n e l q =
    let t = line_taken s (pos 0) [] n (e ∙ ap (λ (y : List ℤ). numbers y n) (is_zero zs l)) in
    nothing-after (line_bytes (pos 0) []) (drop n s) s t.0 (sym q ∙ t.1) ∙ sym last_line

turned : (most rules free : ℕ) (s : List ℕ) → Turned s (turn_within most rules free (length s) (line_of s))
turned most rules free s = by (line_of s) refl
  where
    by : (l : Line) → line_of s ≡ l → Turned s (turn_within most rules free (length s) l)
    by broken e = tt
    by (numbers zs n) e =
        by-test (Turned s) (any_outside zs) (λ o. tt)
        (λ o.
        by-test (Turned s) (is_last zs) (λ l. by-test (Turned s) (eqb n (length s)) (λ q. ending s zs n e l (eqb-true n (length s) q)) (λ q. tt))
        (λ l. room-turned rules free s zs n e (rule_of zs (shape_within most zs (length zs))) (shape-spelt zs most)))

-- Line after line

pub record Spelled (s : List ℕ) (before rs : List InputRule) : Type 0 where
  pub ws : List InputRule
  pub text : s ≡ rules_text ws
  pub rules : rs ≡ before ++ map sorted_rule ws
  pub once : (w : InputRule) → w ∈ ws → Once w

same-program : {rs ss : List InputRule} → program rs ≡ program ss → rs ≡ ss
same-program e = cc

module _ (most size : ℕ) where
  lines-spelled : (turns : ℕ) (s : List ℕ) (line : ℕ) (before rs : List InputRule) → lines_within most size turns s line before ≡ program rs → Spelled s before rs
  unfolding lines_within rules_text
  lines-spelled zero s line before rs e = absurd (zero_one (cc))
  lines-spelled (suc turns) s line before rs e =
      by (turn_within most (length before) (size - length (program_words before)) (length s) (line_of s)) (turned most _ _ s) (λ n r. lines-spelled turns (drop n s) (line + 1) (before ++ (r ∷ [])) rs) e
    where
      by : (t : Turn) → Turned s t → ((n : ℕ) (r : InputRule) → lines_within most size turns (drop n s) (line + 1) (before ++ (r ∷ [])) ≡ program rs → Spelled (drop n s) (before ++ (r ∷ [])) rs)
          → onward (λ n. lines_within most size turns (drop n s) (line + 1)) before line t ≡ program rs → Spelled s before rs
      by (refuses k) p g q = absurd (zero_one (cc))
      by ends p g q = record { ws = []; text = p; rules = sym (same-program q) ∙ sym (append-nil before); once = λ w i. elim i [ ] }
      by (adds x n) p g q =
          let l = g n x q in
          record {
            ws = p.0 ∷ l.ws;
            text = p.3 ∙ ap (λ (t : List ℕ). rule_text p.0 ++ t) l.text;
            rules = l.rules ∙ append_snoc before x (map sorted_rule l.ws) ∙ ap (λ (y : InputRule). before ++ (y ∷ map sorted_rule l.ws)) (sym p.1);
            once = each-cons p.2 l.once;
          }

-- The whole text

starts-as : (front s : List ℕ) → starts_with front s ≡ true → s ≡ front ++ drop (length front) s
starts-as [] s e = refl
starts-as (x ∷ front) [] e = absurd (zero_one (cc))
starts-as (x ∷ front) (b ∷ s) e =
    ap₂ (λ (y : ℕ) (l : List ℕ). y ∷ l) (eqb-true b x (and_left (eqb b x) (starts_with front s) e)) (starts-as front s (and_right (eqb b x) (starts_with front s) e))

pub record ReadSpelled (text : List ℕ) (rs : List InputRule) : Type 0 where
  pub ws : List InputRule
  pub is : text ≡ program_text ws
  pub rules : rs ≡ map sorted_rule ws
  pub once : (w : InputRule) → w ∈ ws → Once w

module _ (most size : ℕ) (text : List ℕ) (rs : List InputRule) where
  lines_of : read_lines_within most size text ≡ program rs → ReadSpelled text rs
  unfolding read_lines_within program_text
  lines_of e = by (starts_with header text) refl e
    where
      by : (b : Bool) → starts_with header text ≡ b → cond b (lines_within most size (suc (length text)) (drop (length header) text) 2 []) (refused NoHeader 1) ≡ program rs → ReadSpelled text rs
      by true p q =
          let l = lines-spelled most size (suc (length text)) (drop (length header) text) 2 [] rs q in
          record { ws = l.ws; is = starts-as header text p ∙ ap (λ (t : List ℕ). header ++ t) l.text; rules = l.rules; once = l.once }
      by false p q = absurd (zero_one (cc))

  pub within-spelled : read_text_within most size text ≡ program rs → ReadSpelled text rs
  unfolding read_text_within
  within-spelled e = by (leb (length text) longest) e
    where
      by : (b : Bool) → cond b (read_lines_within most size text) (refused TooLong 0) ≡ program rs → ReadSpelled text rs
      by true q = lines_of q
      by false q = absurd (zero_one (cc))

pub read-spelled : (size : ℕ) (text : List ℕ) (rs : List InputRule) → read_text size text ≡ program rs → ReadSpelled text rs
unfolding read_text
read-spelled size text rs e = within-spelled most_weighted size text rs e
