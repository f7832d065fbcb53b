-- What the rules of a program that is read look like: `read_fits`. Written.antt shows that any rules that look so are read from
-- some text. Assumes nothing.
use mathlib.Core.Path.{◌≡◌, refl, sym, ◌∙◌, ap, subst}
use mathlib.Core.Bool.{Bool, true, false, cond, not, ◌&&◌, ◌||◌, true≢false}
use mathlib.Core.List.Memᴰ
use mathlib.Core.List.{List, [], ◌∷◌, ◌++◌, append-nil}
use mathlib.Core.Logic.{inl, inr}
use Prim.Native.Nat.{ℕ, zero, suc, ◌+◌, ◌*◌, ◌-◌, ◌≤◌, ◌<◌}
use native.Mathlib.Omega.{arith}
use borrow.Author.Tests.{ltb-true, ltb-false, le-ltb, leb-true, not-true}
use lib.Dec.{T, eqb, ltb, leb}
use lib.IntN.{ℤ, pos}
use lib.Signed.{lt_z}
use lib.ListN.{length, take, drop, get_or, length-append, length-drop, length-map}
use lib.Seq.{length-take-le}
use Rattle.words.specs.Lists.{◌∈◌, all}
use Rattle.words.specs.Literals.{variable, has, ascending}
use Rattle.words.proofs.Lists.{concat-append, Decides, itself, passed, failed, not-decides, all-decides, or-false-left, or-false-right, by-test, and_left, and_right}
use Rattle.words.proofs.Literals.{has-decides, ascending→, variable-positive}
use Rattle.words.proofs.Sorting.{length-ascending, rising-ascending}
use Rattle.text.specs.Line.{Line, broken, numbers, line_of, outside, any_outside}
use Rattle.weights.specs.Weights.{literals, paired, most_weight, most_weighted}
use Rattle.aspif.specs.Rules.{Body, plain, weights, InputRule, literals_of, suits, is_weight, rule_words, program_words}
use Rattle.words.specs.Limits.{largest, most_literals, most_rules}
use Rattle.aspif.specs.Reading.{suited, all_weights, ranged, few_within, is_at, is_count_at, plain_shape, weighed_within, body_within, head_within, shape_within, heads_good, body_good, arranged, RuleRead, fails, reads, rule_with, rule_of, Turn, refuses, ends, adds, is_last, room, turn_within, lines_within, Reading, refused, program, header, read_lines_within, read_lines}
use Rattle.aspif.specs.Claims.{WeighingWithin, FormedWithin, FitsWithin, ReadFits}
use Rattle.text.specs.Strings.{starts_with}
use Rattle.aspif.specs.declared.Kind.{Kind}
use Rattle.aspif.specs.declared.Kind.TheVariants.{Normal, Choice}
use Rattle.aspif.specs.declared.rules.Shape.{Shape}
use Rattle.aspif.specs.declared.rules.Shape.TheVariants.{Shaped, Weighed}
use Rattle.aspif.proofs.Counts.{Counted, shape-counted}
use Rattle.aspif.proofs.PairWords.{up_to, length-paired, paired-light, literals-arranged, length-arranged, arranged-light}
use Rattle.std.specs.Prelude.{Result, Ok, Err}
use Rattle.aspif.specs.declared.ProgramFault.TheVariants.{NoHeader, WrongKind, WrongCount, UnsuitedHeads, WeightOutOfRange, TooManyWeights}
use Rattle.aspif.specs.declared.ProgramFault.{ProgramFault}

-- what `Within` 12 says, for the tables of the documents

abbrev pub Weighing : Body → Type 0
Weighing = WeighingWithin most_weighted

abbrev pub Formed : InputRule → Type 0
Formed = FormedWithin most_weighted

abbrev pub FitsTable : (size : ℕ) → List InputRule → Type 0
FitsTable = FitsWithin most_weighted

-- Sizes

take_in : (n : ℕ) (zs : List ℤ) → any_outside zs ≡ false → any_outside (take n zs) ≡ false
take_in zero zs e = refl
take_in (suc n) [] e = refl
take_in (suc n) (z ∷ zs) e = rw (or-false-left (outside z) _ e) (take_in n zs (or-false-right (outside z) _ e))

drop-in : (n : ℕ) (zs : List ℤ) → any_outside zs ≡ false → any_outside (drop n zs) ≡ false
drop-in zero zs e = e
drop-in (suc n) [] e = e
drop-in (suc n) (z ∷ zs) e = drop-in n zs (or-false-right (outside z) _ e)

paired-in : (zs : List ℤ) → any_outside zs ≡ false → any_outside (literals (paired zs)) ≡ false
paired-in [] e = refl
paired-in (z ∷ []) e = refl
paired-in (z ∷ w ∷ zs) e =
    rw (or-false-left (outside z) _ e) (paired-in zs (or-false-right (outside w) _ (or-false-right (outside z) _ e)))

-- every word is inside
pub inside-decides : (zs : List ℤ) → Decides (not (any_outside zs)) ((z : ℤ) → z ∈ zs → T (not (outside z)))
inside-decides zs = subst (λ (b : Bool). Decides b ((z : ℤ) → z ∈ zs → T (not (outside z)))) (same zs) (all-decides (λ z. itself (not (outside z))) zs)
  where
    de-morgan : (a b : Bool) → (not a && not b) ≡ not (a || b)
    de-morgan true b = refl
    de-morgan false b = refl

    same : (zs : List ℤ) → all (λ z. not (outside z)) zs ≡ not (any_outside zs)
    same [] = refl
    same (z ∷ zs) = rw (same zs) (de-morgan (outside z) (any_outside zs))

pub inside : (zs : List ℤ) → any_outside zs ≡ false → (z : ℤ) → z ∈ zs → variable z ≤ largest
inside zs e z i = ltb-false largest (variable z) (failed _ ((inside-decides zs).to (rw e tt) z i))

pub inside_of : (zs : List ℤ) → ((z : ℤ) → z ∈ zs → variable z ≤ largest) → any_outside zs ≡ false
inside_of zs f = not-true _ ((passed _).to ((inside-decides zs).from (λ z i. rw (le-ltb largest (variable z) (f z i)) tt)))

-- and none is 0
pub no_zero : (zs : List ℤ) → ((z : ℤ) → z ∈ zs → 1 ≤ variable z) → has (pos 0) zs ≡ false
no_zero zs f = failed _ ((not-decides (has-decides (pos 0) zs)).from (λ i. omega (arith, f (pos 0) i)))

pub none-zero : (zs : List ℤ) → has (pos 0) zs ≡ false → (z : ℤ) → z ∈ zs → 1 ≤ variable z
none-zero zs e z i = variable-positive z (λ p. true≢false (sym ((passed _).to ((has-decides (pos 0) zs).from (Memᴰ.cast (sym p) i))) ∙ e))

ascending-in : (zs : List ℤ) → any_outside zs ≡ false → any_outside (ascending zs) ≡ false
ascending-in zs e = inside_of (ascending zs) (λ z i. inside zs e z (ascending→ zs i))

-- One line

-- a shape that is no refusal suits its kind
abbrev Suits : (Result Shape ProgramFault) → Type 0
Suits (Err k) = Unit {0}
Suits (Ok (Shaped k h b)) = suits k h ≡ true
Suits (Ok (Weighed k h b)) = suits k h ≡ true

-- a shape where a test is passed, and a refusal with the number w where it is not
or-wrong : (w : ProgramFault) (t : Bool) (x : Result Shape ProgramFault) → (t ≡ true → Suits x) → Suits (cond t x (Err w))
or-wrong w t x f = by-test Suits t f (λ e. tt)

module _ (most : ℕ) (zs : List ℤ) (n : ℕ) where
  weighed-suits : (k : Kind) (h : ℕ) → Suits (weighed_within most zs n k h)
  weighed-suits k h =
      let b = variable (get_or zs (5 + h) (pos 0)) in
      or-wrong WrongCount (is_count_at zs n (5 + h) && eqb (6 + h + 2 * b) n) (few_within most zs k h b)
      (λ e.
      or-wrong WeightOutOfRange (ranged zs h b) (cond (leb b most) (suited k h (Ok (Weighed k h b))) (Err TooManyWeights))
      (λ f. or-wrong TooManyWeights (leb b most) (suited k h (Ok (Weighed k h b))) (λ g. or-wrong UnsuitedHeads (suits k h) (Ok (Weighed k h b)) (λ s. s))))

  plain-suits : (k : Kind) (h : ℕ) → Suits (plain_shape zs n k h)
  plain-suits k h =
      let b = variable (get_or zs (4 + h) (pos 0)) in
      or-wrong WrongCount (is_count_at zs n (4 + h) && eqb (5 + h + b) n) (suited k h (Ok (Shaped k h b))) (λ e. or-wrong UnsuitedHeads (suits k h) (Ok (Shaped k h b)) (λ s. s))

  body-suits : (k : Kind) (h : ℕ) → Suits (body_within most zs n k h)
  body-suits k h =
      by-test Suits (is_at zs n (3 + h) (pos 0)) (λ e. plain-suits k h)
      (λ e. or-wrong WrongKind (is_at zs n (3 + h) (pos 1)) (weighed_within most zs n k h) (λ f. weighed-suits k h))

  head-suits : (k : Kind) → Suits (head_within most zs n k)
  head-suits k =
      let h = variable (get_or zs 2 (pos 0)) in
      or-wrong WrongCount (is_count_at zs n 2 && leb (3 + h) n) (body_within most zs n k h) (λ e. body-suits k h)

  shape-suits : Suits (shape_within most zs n)
  unfolding shape_within
  shape-suits =
      or-wrong WrongKind (is_at zs n 0 (pos 1)) _
      (λ e.
      by-test Suits (is_at zs n 1 (pos 0)) (λ f. head-suits Normal)
      (λ f. or-wrong WrongKind (is_at zs n 1 (pos 1)) (head_within most zs n Choice) (λ g. head-suits Choice)))

abbrev ReadFormed : (most : ℕ) → RuleRead → Type 0
ReadFormed most (fails k) = Unit {0}
ReadFormed most (reads r) = FormedWithin most r

-- question 8 of heads and literals that passed the others
module _ (most : ℕ) (k : Kind) (hs ls : List ℤ) (body : Body) (lits : literals_of body ≡ ascending ls) (w : WeighingWithin most body) where
  with-formed : length hs ≤ most_literals → length ls ≤ most_literals → suits k (length hs) ≡ true
      → any_outside hs ≡ false → any_outside ls ≡ false → ReadFormed most (rule_with k hs ls body)
  with-formed many long s hs-in ls-in = by-test (ReadFormed most) (heads_good hs && body_good ls) formed (λ e. tt)
    where
      formed : (heads_good hs && body_good ls) ≡ true → FormedWithin most (record { kind = k; heads = ascending hs; body = body })
      formed e =
          let p = and_left (heads_good hs) (body_good ls) e in
          let q = and_right (heads_good hs) (body_good ls) e in
          let above = all-decides (λ h. itself (lt_z (pos 0) h)) in
          let positive = (passed _).from (and_left (all (λ h. lt_z (pos 0) h) hs) _ p) in
          let nonzero = (not-decides (has-decides (pos 0) ls)).to ((passed _).from (and_left (not (has (pos 0) ls)) _ q)) in
          record {
            heads-few = rw (length-ascending hs) many;
            body-few = rw (lits, length-ascending ls) long;
            headed = rw (length-ascending hs) s;
            positive = (passed _).to ((above (ascending hs)).from (λ z i. (above hs).to positive z (ascending→ hs i)));
            heads-rise = rising-ascending hs ∙ and_right (all (λ h. lt_z (pos 0) h) hs) _ p;
            nonzero = rw lits (failed _ ((not-decides (has-decides (pos 0) (ascending ls))).from (λ i. nonzero (ascending→ ls i))));
            body-rise = rw lits (rising-ascending ls ∙ and_right (not (has (pos 0) ls)) _ q);
            heads-in = ascending-in hs hs-in;
            body-in = rw lits (ascending-in ls ls-in);
            weighing = w;
          }

-- so many words from a place on, where they are there
pub part_length : (m n : ℕ) (zs : List ℤ) → n + m ≤ length zs → length (take m (drop n zs)) ≡ m
part_length m n zs h = length-take-le m (drop n zs) (omega (arith, length-drop n zs))

part_in : (m n : ℕ) (zs : List ℤ) → any_outside zs ≡ false → any_outside (take m (drop n zs)) ≡ false
part_in m n zs o = take_in m (drop n zs) (drop-in n zs o)

rule-formed : (most : ℕ) (zs : List ℤ) → any_outside zs ≡ false → (x : Result Shape ProgramFault) → Counted most zs (length zs) x → Suits x → ReadFormed most (rule_of zs x)
unfolding ranged
rule-formed most zs o (Err k) c s = tt
rule-formed most zs o (Ok (Shaped k h b)) c s =
    let hs = take h (drop 3 zs) in
    let ls = take b (drop (5 + h) zs) in
    let many : length hs ≡ h = part_length h 3 zs (omega (arith, c.2)) in
    let long : length ls ≡ b = part_length b (5 + h) zs (omega (arith, c.2)) in
    with-formed most k hs ls (plain (ascending ls)) refl tt (rw many c.0) (rw long c.1) (rw many s) (part_in h 3 zs o) (part_in b (5 + h) zs o)
rule-formed most zs o (Ok (Weighed k h b)) c s =
    let hs = take h (drop 3 zs) in
    let ws = take (2 * b) (drop (6 + h) zs) in
    let ps = paired ws in
    let bound = get_or zs (4 + h) (pos 0) in
    let light = and_right (is_weight bound) (all_weights ws) c.3 in
    let many : length hs ≡ h = part_length h 3 zs (omega (arith, c.2)) in
    let long : length (literals ps) ≡ b =
    omega (arith, length-map ps (λ x. x.literal), length-paired ws light, part_length (2 * b) (6 + h) zs (omega (arith, c.2))) in
    let few : length (arranged ps) ≤ most = omega (arith, length-arranged ps, length-map ps (λ x. x.literal), long, c.1) in
    with-formed most k hs (literals ps) (weights (variable bound) (arranged ps)) (literals-arranged ps)
    (few, (up_to most_weight bound (and_left (is_weight bound) (all_weights ws) c.3)).1, arranged-light ps (paired-light ws light))
    (rw many c.0) (rw long (omega (arith, c.1, c.4))) (rw many s) (part_in h 3 zs o) (paired-in ws (part_in (2 * b) (6 + h) zs o))

-- what a turn that adds a rule says of it
abbrev Added : (most : ℕ) → ℕ → ℕ → Turn → Type 0
Added most rules free (refuses k) = Unit {0}
Added most rules free ends = Unit {0}
Added most rules free (adds r n) = FormedWithin most r × (rules < most_rules) × (length (rule_words r) ≤ free)

room-added : (most rules free : ℕ) (x : RuleRead) (n : ℕ) → ReadFormed most x → Added most rules free (room rules free x n)
room-added most rules free (fails k) n f = tt
room-added most rules free (reads r) n f =
    by-test (Added most rules free) (ltb rules most_rules)
    (λ e. by-test (Added most rules free) (leb (length (rule_words r)) free) (λ g. (f, ltb-true _ _ e, leb-true _ _ g)) (λ g. tt)) (λ e. tt)

turn-added : (most rules free left : ℕ) (l : Line) → Added most rules free (turn_within most rules free left l)
turn-added most rules free left broken = tt
turn-added most rules free left (numbers zs n) =
    by-test (Added most rules free) (any_outside zs) (λ e. tt)
    (λ o.
    by-test (Added most rules free) (is_last zs) (λ e. by-test (Added most rules free) (eqb n left) (λ f. tt) (λ f. tt))
    (λ e. room-added most rules free (rule_of zs (shape_within most zs (length zs))) n (rule-formed most zs o (shape_within most zs (length zs)) (shape-counted most zs (length zs)) (shape-suits most zs (length zs)))))

-- Line after line

-- the words of rules one after another
pub words_append : (rs ss : List InputRule) → program_words (rs ++ ss) ≡ program_words rs ++ program_words ss
words_append = concat-append rule_words

length_more : (rs : List InputRule) (r : InputRule) → length (program_words (rs ++ (r ∷ []))) ≡ length (program_words rs) + length (rule_words r)
length_more rs r = ap length (words_append rs (r ∷ [])) ∙ rw (append-nil (rule_words r)) (length-append (program_words rs) (rule_words r))

-- what is made of a turn at a line; `on` reads the text that is left after so many bytes, with the rules so far
abbrev pub onward : (ℕ → List InputRule → Reading) → List InputRule → ℕ → Turn → Reading
onward on rs line t = elim t [ refuses k ↦ refused k line | ends ↦ program rs | adds r n ↦ on n (rs ++ (r ∷ [])) ]

-- one line of the reading
pub lines-on : (most size turns : ℕ) (s : List ℕ) (line : ℕ) (rs : List InputRule)
    → lines_within most size (suc turns) s line rs
    ≡ onward (λ n. lines_within most size turns (drop n s) (line + 1)) rs line (turn_within most (length rs) (size - length (program_words rs)) (length s) (line_of s))
unfolding lines_within
lines-on most size turns s line rs = refl

module _ (most size : ℕ) where
  fits_more : (rs : List InputRule) (r : InputRule) → FitsWithin most size rs → Added most (length rs) (size - length (program_words rs)) (adds r 0) → FitsWithin most size (rs ++ (r ∷ []))
  fits_more rs r f a =
      record {
        formed = λ s i. elim (Memᴰ.append_cases rs i) [ inl j ↦ f.formed s j | inr j ↦ rw (Memᴰ.eq_of_singleton j) a.0 ];
        few = omega (arith, length-append rs (r ∷ []), a.1);
        room = omega (arith, length_more rs r, a.2, f.room);
      }

  lines_fit : (turns : ℕ) (s : List ℕ) (line : ℕ) (so_far rs : List InputRule) → FitsWithin most size so_far → lines_within most size turns s line so_far ≡ program rs → FitsWithin most size rs
  unfolding lines_within
  lines_fit zero s line so_far rs f e = absurd (let z : ◌≡◌ {A = ℕ} 0 1 = cc in omega arith)
  lines_fit (suc turns) s line so_far rs f e =
      by (turn_within most (length so_far) (size - length (program_words so_far)) (length s) (line_of s)) (turn-added most _ _ _ (line_of s)) (λ n ss g. lines_fit turns (drop n s) (line + 1) ss rs g) e
    where
      by : (t : Turn) → Added most (length so_far) (size - length (program_words so_far)) t
          → ((n : ℕ) (ss : List InputRule) → FitsWithin most size ss → lines_within most size turns (drop n s) (line + 1) ss ≡ program rs → FitsWithin most size rs)
          → onward (λ n. lines_within most size turns (drop n s) (line + 1)) so_far line t ≡ program rs → FitsWithin most size rs
      by (refuses k) a g p = absurd (let z : ◌≡◌ {A = ℕ} 0 1 = cc in omega arith)
      by ends a g p = let q : so_far ≡ rs = cc in rw (← q) f
      by (adds r n) a g p = g n (so_far ++ (r ∷ [])) (fits_more so_far r f a) p

pub within-fits : ReadFits
unfolding read_lines_within
within-fits most size text rs e = by (starts_with header text) e
  where
    by : (b : Bool) → cond b (lines_within most size (suc (length text)) (drop (length header) text) 2 []) (refused NoHeader 1) ≡ program rs → FitsWithin most size rs
    by true p = lines_fit most size (suc (length text)) (drop (length header) text) 2 [] rs (record { formed = λ r i. elim i [ ]; few = omega arith; room = omega arith }) p
    by false p = absurd (let z : ◌≡◌ {A = ℕ} 0 1 = cc in omega arith)

pub read_fits : (size : ℕ) (text : List ℕ) (rs : List InputRule) → read_lines size text ≡ program rs → FitsTable size rs
unfolding read_lines
read_fits size text rs e = within-fits most_weighted size text rs e
