-- `ReadPrinted` of specs/Exact.antt: a text is read exactly where it is that of a program within the limits.
-- Assumes nothing.
use mathlib.Core.Path.{◌≡◌, refl, sym, ◌∙◌, ap, ap₂, subst}
use mathlib.Core.Bool.{Bool, true, false, cond, not}
use mathlib.Core.List.Memᴰ
use mathlib.Core.List.{List, [], ◌∷◌, map}
use Prim.Native.Nat.{ℕ, ◌+◌, ◌≤◌, max}
use native.Mathlib.Omega.{arith}
use borrow.Author.Tests.{leb-true, le-leb, lt-ltb}
use lib.Dec.{T, ltb, leb}
use lib.IntN.{ℤ, pos}
use lib.Signed.{lt_z}
use lib.ListN.{length, length-append, length-map}
use Rattle.words.specs.Limits.{longest, largest, most_literals}
use Rattle.words.specs.Lists.{◌∈◌, all}
use Rattle.words.specs.Literals.{variable, distinct, top, insert, insert_all, ascending}
use Rattle.words.proofs.Lists.{zero_one, itself, passed, if-true, is_true, all-decides, not-decides, and_both}
use Rattle.words.proofs.Literals.{has-decides, variable-positive, ascending←}
use Rattle.words.proofs.Literals as Words
use Rattle.words.proofs.Places.{once-decides}
use Rattle.words.proofs.Sorting.{length-ascending, rising-ascending}
use Rattle.weights.specs.Weights.{pair_words}
use Rattle.weights.proofs.Reordered.{and-back, reorder-in}
use Rattle.aspif.specs.Rules.{Body, plain, weights, InputRule, literals_of, suits, rule_words, program_words, rule_top, atoms}
use Rattle.aspif.specs.Reading.{Reading, refused, program, read_lines, read_text, program_answer, arranged}
use Rattle.aspif.specs.Text.{program_text}
use Rattle.aspif.specs.declared.Kind.{Kind}
use Rattle.aspif.specs.declared.Kind.TheVariants.{Normal, Choice}
use Rattle.aspif.proofs.PairWords.{literals-arranged, length-arranged, length_pairs}
use Rattle.aspif.proofs.Formed.{Formed, FitsTable, Weighing, inside, inside_of, no_zero, read_fits}
use Rattle.aspif.proofs.Spelled.{sorted_body, sorted_rule, Once, read-spelled}
use Rattle.aspif.proofs.Written.{Passes, Fits, taken-read}
use Rattle.checker.proofs.Verdicts.{lines-read}
use Rattle.costs.proofs.Order.{arranged-reorder}
use Rattle.soundness.specs.Exact.{HeadCount, BodyCount, Named, Good, Within, ReadPrinted}
use Rattle.soundness.proofs.Printed.{same-told}
use Rattle.std.specs.Prelude.{Ok}
use Rattle.aspif.specs.declared.ProgramFault.TheVariants.{TooLong}

-- What stays when a rule is put in order

literals-sorted : (b : Body) → literals_of (sorted_body b) ≡ ascending (literals_of b)
literals-sorted (plain ls) = refl
literals-sorted (weights b ps) = literals-arranged ps

words-sorted : (r : InputRule) → length (rule_words (sorted_rule r)) ≡ length (rule_words r)
words-sorted r = by r.body
  where
    by : (b : Body) → length (rule_words (sorted_rule (record { kind = r.kind; heads = r.heads; body = b })))
        ≡ length (rule_words (record { kind = r.kind; heads = r.heads; body = b }))
    by (plain ls) =
        omega (arith, length-append (ascending r.heads) (ascending ls), length-append r.heads ls, length-ascending r.heads, length-ascending ls)
    by (weights b ps) =
        omega (arith, length-append (ascending r.heads) (pair_words (arranged ps)), length-append r.heads (pair_words ps), length-ascending r.heads, length_pairs ps, length_pairs (arranged ps), length-arranged ps)

all_words : (ws : List InputRule) → length (program_words (map sorted_rule ws)) ≡ length (program_words ws)
all_words [] = refl
all_words (w ∷ ws) =
    length-append (rule_words (sorted_rule w)) (program_words (map sorted_rule ws))
    ∙ ap₂ (λ (a b : ℕ). a + b) (words-sorted w) (all_words ws) ∙ sym (length-append (rule_words w) (program_words ws))

top-insert : (x : ℤ) (l : List ℤ) → top (insert x l) ≡ max (variable x) (top l)
unfolding insert
top-insert x [] = refl
top-insert x (y ∷ l) = by (ltb (variable x) (variable y)) (top-insert x l)
  where
    by : (t : Bool) → top (insert x l) ≡ max (variable x) (top l) → top (cond t (x ∷ y ∷ l) (y ∷ insert x l)) ≡ max (variable x) (max (variable y) (top l))
    by true e = refl
    by false e = omega arith

top-all : (acc l : List ℤ) → top (insert_all acc l) ≡ max (top acc) (top l)
unfolding insert_all
top-all acc [] = omega arith
top-all acc (x ∷ l) = let a = top-all (insert x acc) l in let b = top-insert x acc in a ∙ omega arith

top-ascending : (l : List ℤ) → top (ascending l) ≡ top l
top-ascending l = top-all [] l ∙ omega arith

rule-top : (r : InputRule) → rule_top (sorted_rule r) ≡ rule_top r
rule-top r = ap₂ (λ (a b : ℕ). max a b) (top-ascending r.heads) (ap top (literals-sorted r.body) ∙ top-ascending (literals_of r.body))

atoms-sorted : (ws : List InputRule) → atoms (map sorted_rule ws) ≡ atoms ws
atoms-sorted [] = refl
atoms-sorted (w ∷ ws) = ap₂ (λ (a b : ℕ). max a b) (rule-top w) (atoms-sorted ws)

-- Named atoms

abbrev InRange : List ℤ → Type 0
InRange l = (x : ℤ) → x ∈ l → (1 ≤ variable x) × (variable x ≤ largest)

named : (l : List ℤ) → InRange l → distinct l ≡ true → Named l
named [] f d = tt
named (x ∷ l) f d =
    let o = if-true (once-decides x l) d in
    let r = f x (Memᴰ.head refl) in
    (r.0, r.1, λ y i e. o.0 (y, i, e), named l (λ y i. f y (Memᴰ.tail i)) o.1)

range-of : (l : List ℤ) → Named l → InRange l
range-of [] n y m = elim m [ ]
range-of (x ∷ l) n y (Memᴰ.head p) = rw p (n.0, n.1)
range-of (x ∷ l) n y (Memᴰ.tail i) = range-of l n.3 y i

distinct_of : (l : List ℤ) → Named l → distinct l ≡ true
distinct_of [] n = refl
distinct_of (x ∷ l) n = is_true (once-decides x l) (λ q. n.2 q.0 q.1 q.2, distinct_of l n.3)

-- A rule that is read, before it was put in order

positive-in : (l : List ℤ) → all (λ h. lt_z (pos 0) h) l ≡ true → (x : ℤ) → x ∈ l → (x ≡ pos (variable x)) × (1 ≤ variable x)
positive-in l e x i = Words.positive x (if-true (all-decides (λ h. itself (lt_z (pos 0) h)) l) e x i)

head-count : (k : Kind) (n : ℕ) → n ≤ most_literals → suits k n ≡ true → HeadCount k n
head-count Normal n f e = omega (arith, leb-true n 1 e)
head-count Choice n f e = (leb-true 1 n e, f)

body-count : (b : Body) → distinct (literals_of b) ≡ true → length (literals_of (sorted_body b)) ≤ most_literals → Weighing (sorted_body b) → BodyCount b
body-count (plain ls) d f w = omega (arith, length-ascending ls)
body-count (weights b ps) d f w = (omega (arith, w.0, length-arranged ps), w.1, λ p i. w.2 p (reorder-in (and-back (arranged-reorder ps d)) i))

good_of : (r : InputRule) → Once r → Formed (sorted_rule r) → Good r
good_of r d f =
    let hs = r.heads in
    let ls = literals_of r.body in
    let heads-in : (x : ℤ) → x ∈ hs → (x ≡ pos (variable x)) × (1 ≤ variable x) = λ x i. positive-in (ascending hs) f.positive x (ascending← hs i) in
    let back : (x : ℤ) → x ∈ ls → x ∈ literals_of (sorted_body r.body) = λ x i. subst (λ (l : List ℤ). x ∈ l) (sym (literals-sorted r.body)) (ascending← ls i) in
    let zero = (not-decides (has-decides (pos 0) (literals_of (sorted_body r.body)))).to (rw f.nonzero tt) in
    record {
      head_count = head-count r.kind (length hs) (omega (arith, f.heads-few, length-ascending hs)) (rw (length-ascending hs) at f.headed);
      positive = λ h i. (heads-in h i).0;
      heads = named hs (λ x i. ((heads-in x i).1, inside (ascending hs) f.heads-in x (ascending← hs i))) (sym (rising-ascending hs) ∙ f.heads-rise);
      body_count = body-count r.body d f.body-few f.weighing;
      body = named ls (λ x i. (variable-positive x (λ e. zero (subst (λ (z : ℤ). z ∈ literals_of (sorted_body r.body)) e (back x i))), inside (literals_of (sorted_body r.body)) f.body-in x (back x i))) d;
    }

-- and a rule within the limits passes

suits_of : (k : Kind) (n : ℕ) → HeadCount k n → suits k n ≡ true
suits_of Normal n h = le-leb n 1 h
suits_of Choice n h = le-leb 1 n h.0

heads-few : (k : Kind) (n : ℕ) → HeadCount k n → n ≤ most_literals
heads-few Normal n h = omega arith
heads-few Choice n h = h.1

body-few : (b : Body) → BodyCount b → length (literals_of b) ≤ most_literals
body-few (plain ls) h = h
body-few (weights b ps) h = omega (arith, h.0, length-map ps (λ x. x.literal))

weighing-of : (b : Body) → BodyCount b → Weighing b
weighing-of (plain ls) h = tt
weighing-of (weights b ps) h = h

passes_of : (r : InputRule) → Good r → Passes r
passes_of r g =
    let hs = r.heads in
    let ls = literals_of r.body in
    let p : all (λ h. lt_z (pos 0) h) hs ≡ true = is_true (all-decides (λ h. itself (lt_z (pos 0) h)) hs) (λ h i. above h (g.positive h i) (range-of hs g.heads h i).0) in
    record {
      heads-few = heads-few r.kind (length hs) g.head_count;
      body-few = body-few r.body g.body_count;
      headed = suits_of r.kind (length hs) g.head_count;
      heads-good = and_both p (distinct_of hs g.heads);
      body-good = and_both (ap not (no_zero ls (λ x i. (range-of ls g.body x i).0))) (distinct_of ls g.body);
      heads-in = inside_of hs (λ x i. (range-of hs g.heads x i).1);
      body-in = inside_of ls (λ x i. (range-of ls g.body x i).1);
      weighing = weighing-of r.body g.body_count;
    }
  where
    over : (n : ℕ) → 1 ≤ n → T (lt_z (pos 0) (pos n))
    over n h = (passed (ltb 0 n)).from (lt-ltb 0 n h)

    above : (h : ℤ) → h ≡ pos (variable h) → 1 ≤ variable h → T (lt_z (pos 0) h)
    above h e n = subst (λ (z : ℤ). T (lt_z (pos 0) z)) (sym e) (over (variable h) n)

-- The reader

short : (size : ℕ) (text : List ℕ) (rs : List InputRule) → read_text size text ≡ program rs → length text ≤ longest
unfolding read_text
short size text rs e = by (leb (length text) longest) refl e
  where
    by : (b : Bool) → leb (length text) longest ≡ b → cond b (read_lines size text) (refused TooLong 0) ≡ program rs → length text ≤ longest
    by true q e = leb-true (length text) longest q
    by false q e = absurd (zero_one (cc))

pub read-printed : ReadPrinted
read-printed text table table' r p N R = (to, from)
  where
    Is : Type 0
    Is = (ws : List InputRule) × (text ≡ program_text ws) × Within (length text) (length table) ws × (N ≡ atoms ws) × (R ≡ length ws)

    to : r ≡ Ok (record { atoms = N; rules = R }) → Is
    to y = by (read_text (length table) text) refl (sym y ∙ p.answer)
      where
        by : (x : Reading) → read_text (length table) text ≡ x → Ok (record { atoms = N; rules = R }) ≡ program_answer x → Is
        by (refused k n) e q = absurd (zero_one (cc))
        by (program rs) e q =
            let s = read-spelled (length table) text rs e in
            let ws = s.ws in
            let f = subst (FitsTable (length table)) s.rules (read_fits (length table) text rs (lines-read (length table) text rs e)) in
            let t = same-told q in
            let c : length (map sorted_rule ws) ≡ length ws = length-map ws sorted_rule in (
              ws,
              s.is,
              record {
                bytes-few = short (length table) text rs e;
                rules-few = omega (arith, f.few, c);
                words-few = omega (arith, f.room, all_words ws);
                good = λ w i. good_of w (s.once w i) (f.formed (sorted_rule w) (Memᴰ.map sorted_rule i));
              },
              t.0 ∙ ap atoms s.rules ∙ atoms-sorted ws,
              t.1 ∙ ap length s.rules ∙ c,
            )

    from : Is → r ≡ Ok (record { atoms = N; rules = R })
    from i =
        let ws = i.0 in
        let w = i.2 in
        let f : Fits (length table) [] ws = record { passes = λ v j. passes_of v (w.good v j); few = omega (arith, w.rules-few); room = omega (arith, w.words-few, all_words ws) } in
        let e = ap (read_text (length table)) i.1 ∙ taken-read (length table) ws f (rw i.1 at w.bytes-few) in
        p.answer ∙ ap program_answer e
        ∙ ap₂ (λ (a b : ℕ). Ok (record { atoms = a; rules = b })) (atoms-sorted ws ∙ sym i.3) (length-map ws sorted_rule ∙ sym i.4)
