-- The words of a program that is read are no more than the bytes of its text: `read-shorter`. A rule's words are fewer than its line's
-- numbers. Assumes nothing.
use mathlib.Core.Path.{◌≡◌, refl, ◌∙◌, ap}
use mathlib.Core.Bool.{Bool, true, false, cond, ◌&&◌}
use mathlib.Core.List.{List, [], ◌∷◌, ◌++◌}
use Prim.Native.Nat.{ℕ, zero, suc, ◌+◌, ◌*◌, ◌-◌, ◌≤◌, ◌<◌}
use native.Mathlib.Omega.{arith}
use borrow.Author.Tests.{leb-true}
use lib.Dec.{eqb, ltb, leb}
use lib.IntN.{ℤ, pos}
use lib.ListN.{length, take, drop, get_or, length-append, length-drop}
use Rattle.words.specs.Limits.{longest, most_rules}
use Rattle.words.specs.Literals.{variable, ascending}
use Rattle.words.proofs.Lists.{by-test, and_right}
use Rattle.words.proofs.Sorting.{length-ascending}
use Rattle.text.specs.Line.{Line, broken, numbers, line_of, any_outside}
use Rattle.text.specs.Strings.{starts_with}
use Rattle.text.proofs.Lines.{bounds_of}
use Rattle.weights.specs.Weights.{literals, paired, most_weighted}
use Rattle.aspif.specs.Rules.{Body, plain, weights, InputRule, is_weight, bound_words, body_words, rule_words, program_words}
use Rattle.aspif.specs.Reading.{all_weights, ranged, shape_within, heads_good, body_good, arranged, RuleRead, fails, reads, rule_with, rule_of, Turn, refuses, ends, adds, is_last, room, turn_within, lines_within, refused, program, header, read_lines_within, read_text_within, read_text}
use Rattle.aspif.specs.declared.Kind.{Kind}
use Rattle.aspif.specs.declared.rules.Shape.{Shape}
use Rattle.aspif.specs.declared.rules.Shape.TheVariants.{Shaped, Weighed}
use Rattle.aspif.proofs.Counts.{Counted, shape-counted}
use Rattle.aspif.proofs.PairWords.{length_pairs, length-paired, length-arranged}
use Rattle.aspif.proofs.Formed.{part_length, onward, words_append}
use Rattle.std.specs.Prelude.{Result, Ok, Err}
use Rattle.aspif.specs.declared.ProgramFault.TheVariants.{TooLong, NoHeader}
use Rattle.aspif.specs.declared.ProgramFault.{ProgramFault}

-- One line

-- the words of the rule that is read, if one is, are fewer than n
abbrev Fewer : ℕ → RuleRead → Type 0
Fewer n (fails k) = Unit {0}
Fewer n (reads r) = length (rule_words r) < n

with-fewer : (k : Kind) (hs ls : List ℤ) (body : Body) (n : ℕ) → 4 + length (bound_words body) + length hs + length (body_words body) < n
    → Fewer n (rule_with k hs ls body)
with-fewer k hs ls body n h =
    by-test (Fewer n) (heads_good hs && body_good ls)
    (λ e.
    omega (arith, h, length-append (bound_words body) (ascending hs ++ body_words body), length-append (ascending hs) (body_words body), length-ascending hs))
    (λ e. tt)

rule-fewer : (most : ℕ) (zs : List ℤ) (x : Result Shape ProgramFault) → Counted most zs (length zs) x → Fewer (length zs) (rule_of zs x)
unfolding ranged
rule-fewer most zs (Err k) c = tt
rule-fewer most zs (Ok (Shaped k h b)) c =
    let hs = take h (drop 3 zs) in
    let ls = take b (drop (5 + h) zs) in
    with-fewer k hs ls (plain (ascending ls)) (length zs)
    (omega (arith, c.2, part_length h 3 zs (omega (arith, c.2)), length-ascending ls, part_length b (5 + h) zs (omega (arith, c.2))))
rule-fewer most zs (Ok (Weighed k h b)) c =
    let hs = take h (drop 3 zs) in
    let ws = take (2 * b) (drop (6 + h) zs) in
    let ps = paired ws in
    let bound = get_or zs (4 + h) (pos 0) in
    let light = and_right (is_weight bound) (all_weights ws) c.3 in
    let twice : length (body_words (weights (variable bound) (arranged ps))) ≡ 2 * b =
    omega (arith, length_pairs (arranged ps), length-arranged ps, length-paired ws light, part_length (2 * b) (6 + h) zs (omega (arith, c.2))) in
    with-fewer k hs (literals ps) (weights (variable bound) (arranged ps)) (length zs)
    (omega (arith, c.2, part_length h 3 zs (omega (arith, c.2)), twice))

-- the words of the rule that a turn adds, if it adds one, are no more than its bytes, which are no more than those that are left
abbrev Shorter : ℕ → Turn → Type 0
Shorter left (refuses k) = Unit {0}
Shorter left ends = Unit {0}
Shorter left (adds r n) = (length (rule_words r) ≤ n) × (n ≤ left)

room-shorter : (rules free left n m : ℕ) (x : RuleRead) → Fewer m x → m < n → n ≤ left → Shorter left (room rules free x n)
room-shorter rules free left n m (fails k) f h l = tt
room-shorter rules free left n m (reads r) f h l =
    by-test (Shorter left) (ltb rules most_rules)
    (λ e. by-test (Shorter left) (leb (length (rule_words r)) free) (λ g. (omega (arith, f, h), l)) (λ g. tt)) (λ e. tt)

turn-shorter : (most rules free : ℕ) (s : List ℕ) → Shorter (length s) (turn_within most rules free (length s) (line_of s))
turn-shorter most rules free s = by (line_of s) refl
  where
    by : (l : Line) → line_of s ≡ l → Shorter (length s) (turn_within most rules free (length s) l)
    by broken e = tt
    by (numbers zs n) e =
        let b = bounds_of s zs n e in
        by-test (Shorter (length s)) (any_outside zs) (λ o. tt)
        (λ o.
        by-test (Shorter (length s)) (is_last zs) (λ f. by-test (Shorter (length s)) (eqb n (length s)) (λ g. tt) (λ g. tt))
        (λ f.
        room-shorter rules free (length s) n (length zs) (rule_of zs (shape_within most zs (length zs)))
        (rule-fewer most zs (shape_within most zs (length zs)) (shape-counted most zs (length zs))) b.2 b.1))

-- Line after line

module _ (most size : ℕ) where
  lines-shorter : (turns : ℕ) (s : List ℕ) (line : ℕ) (so_far rs : List InputRule) → lines_within most size turns s line so_far ≡ program rs
      → length (program_words rs) ≤ length (program_words so_far) + length s
  unfolding lines_within
  lines-shorter zero s line so_far rs e = absurd (let z : ◌≡◌ {A = ℕ} 0 1 = cc in omega arith)
  lines-shorter (suc turns) s line so_far rs e =
      by (turn_within most (length so_far) (size - length (program_words so_far)) (length s) (line_of s)) (turn-shorter most _ _ s)
      (λ n ss. lines-shorter turns (drop n s) (line + 1) ss rs) e
    where
      by : (t : Turn) → Shorter (length s) t
          → ((n : ℕ) (ss : List InputRule) → lines_within most size turns (drop n s) (line + 1) ss ≡ program rs → length (program_words rs) ≤ length (program_words ss) + length (drop n s))
          → onward (λ n. lines_within most size turns (drop n s) (line + 1)) so_far line t ≡ program rs → length (program_words rs) ≤ length (program_words so_far) + length s
      by (refuses k) a g p = absurd (let z : ◌≡◌ {A = ℕ} 0 1 = cc in omega arith)
      by ends a g p = let q : so_far ≡ rs = cc in rw (← q) (omega arith)
      by (adds r n) a g p =
          let more : length (program_words (so_far ++ (r ∷ []))) ≡ length (program_words so_far) + length (program_words (r ∷ [])) =
          ap length (words_append so_far (r ∷ [])) ∙ length-append (program_words so_far) (program_words (r ∷ [])) in
          omega (arith, g n (so_far ++ (r ∷ [])) p, more, length-append (rule_words r) [], length-drop n s, a)

  -- a text that is read has at most 65,535 bytes, and the rules no more words
  pub within-shorter : (text : List ℕ) (rs : List InputRule) → read_text_within most size text ≡ program rs → length (program_words rs) ≤ longest
  unfolding read_text_within read_lines_within
  within-shorter text rs e = by (leb (length text) longest) refl e
    where
      lines : (b : Bool) → cond b (lines_within most size (suc (length text)) (drop (length header) text) 2 []) (refused NoHeader 1) ≡ program rs → length (program_words rs) ≤ length text
      lines true p = omega (arith, lines-shorter (suc (length text)) (drop (length header) text) 2 [] rs p, length-drop (length header) text)
      lines false p = absurd (let z : ◌≡◌ {A = ℕ} 0 1 = cc in omega arith)

      by : (b : Bool) → leb (length text) longest ≡ b → cond b (read_lines_within most size text) (refused TooLong 0) ≡ program rs → length (program_words rs) ≤ longest
      by true l p = omega (arith, leb-true (length text) longest l, lines (starts_with header text) p)
      by false l p = absurd (let z : ◌≡◌ {A = ℕ} 0 1 = cc in omega arith)

pub read-shorter : (size : ℕ) (text : List ℕ) (rs : List InputRule) → read_text size text ≡ program rs → length (program_words rs) ≤ longest
unfolding read_text
read-shorter size text rs e = within-shorter most_weighted size text rs e
