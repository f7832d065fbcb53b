-- Laws of `line_at` and its parts: which answer each test leads to, and what an answered line passed.
-- Assumes nothing.
use mathlib.Core.Path.{◌≡◌, refl, sym, ap, ◌∙◌, subst}
use mathlib.Core.Bool.{Bool, true, false, cond, not, ◌&&◌, ◌||◌}
use Rattle.std.specs.Prelude.{Option, None, Some}
use mathlib.Core.List.{List, [], ◌∷◌}
use Prim.Native.Nat.{ℕ, suc, ◌+◌, ◌-◌, ◌<◌, ◌≤◌, max}
use native.Mathlib.Omega.{arith}
use lib.IntN.{ℤ, pos}
use lib.Dec.{ltb, eqb}
use lib.ListN.{length, take, drop, length-drop, drop_of_length-le}
use borrow.Author.Tests.{le-ltb, lt-ltb, ltb-true, ltb-false, eq-eqb, ne_eqb}
use Rattle.words.specs.Limits.{largest, longest, most_numbers}
use Rattle.words.specs.Literals.{distinct, same, has, top, variable}
use Rattle.words.proofs.Lists.{if-true, failed, not-decides, and_left, and_right, or-false-right}
use Rattle.words.proofs.Literals.{same-decides}
use Rattle.text.specs.Bytes.{class_of}
use Rattle.text.specs.Line.{Line, broken, numbers, line_of, outside, any_outside, is_closed}
use Rattle.text.proofs.Lines.{bounds_of}
use Rattle.text.specs.declared.Letter.{Letter}
use Rattle.text.specs.declared.Class.{Class}
use Rattle.text.specs.declared.Class.TheVariants.{Newline, Space, Minus, Digit, Step, Other}
use Rattle.drupe.specs.Lines.{signs_of, signed, line_refusal, all_passed, LineAt, end, refused, line, refused_or, line_asked, of_numbers, is_space, after_letter, after_first, line_from, line_at, line_read, line_answer, numbers_of, AnswerBounds, ProofLineRead}
use Rattle.drupe.specs.declared.ProofLine.{ProofLine}
use Rattle.drupe.specs.declared.ProofFault.{ProofFault}
use Rattle.drupe.specs.declared.LineReading.{LineReading}
use Rattle.std.specs.Prelude.{Result}
use Rattle.drupe.specs.declared.ProofFault.TheVariants.{TooLong, Malformed, OutOfRange, WrongSigns, RepeatedVariable}

-- Questions 23 to 25 together

outside-top : (zs : List ℤ) → any_outside zs ≡ ltb largest (top zs)
outside-top [] = refl
outside-top (z ∷ zs) = ap (λ (t : Bool). outside z || t) (outside-top zs) ∙ by (ltb largest (variable z)) (ltb largest (top zs)) refl refl
  where
    by : (a b : Bool) → ltb largest (variable z) ≡ a → ltb largest (top zs) ≡ b → (a || b) ≡ ltb largest (max (variable z) (top zs))
    by true b p q = sym (lt-ltb largest (max (variable z) (top zs)) (omega (arith, ltb-true largest (variable z) p)))
    by false true p q = sym (lt-ltb largest (max (variable z) (top zs)) (omega (arith, ltb-true largest (top zs) q)))
    by false false p q = sym (le-ltb largest (max (variable z) (top zs)) (omega (arith, ltb-false largest (variable z) p, ltb-false largest (top zs) q)))

pub good-parts : (x : Letter) (zs : List ℤ) {a b s d : Bool} → ltb largest (top zs) ≡ a → ltb most_numbers (length zs) ≡ b → signed (signs_of x) zs ≡ s → distinct zs ≡ d
    → all_passed (line_refusal x zs) ≡ (not b && (not a && (s && d)))
good-parts x zs {a} {b} {s} {d} p q r e = rw (outside-top zs, p, q, r, e) (by a b s d)
  where
    by : (a b s d : Bool) → all_passed (cond (a || b) (Some OutOfRange) (cond s (cond d None (Some RepeatedVariable)) (Some WrongSigns))) ≡ (not b && (not a && (s && d)))
    by true true s d = refl
    by true false s d = refl
    by false true s d = refl
    by false false true true = refl
    by false false true false = refl
    by false false false d = refl

-- The numbers before a closing 0

pub outside-before : (zs : List ℤ) → is_closed zs ≡ true → any_outside (take (length zs - 1) zs) ≡ any_outside zs
outside-before [] e = refl
outside-before (z ∷ []) e = rw (if-true (same-decides z (pos 0)) e)
outside-before (z ∷ y ∷ zs) e =
    let h : suc (suc (length zs)) - 1 ≡ suc (suc (length zs) - 1) = omega arith in
    rw h (ap (λ (t : Bool). outside z || t) (outside-before (y ∷ zs) (and_right (not (same z (pos 0))) (is_closed (y ∷ zs)) e)))

-- none of them is 0
zero-before : (zs : List ℤ) → is_closed zs ≡ true → has (pos 0) (take (length zs - 1) zs) ≡ false
zero-before [] e = refl
zero-before (z ∷ []) e = refl
zero-before (z ∷ y ∷ zs) e =
    let h : suc (suc (length zs)) - 1 ≡ suc (suc (length zs) - 1) = omega arith in
    let f = if-true (not-decides (same-decides z (pos 0))) (and_left (not (same z (pos 0))) (is_closed (y ∷ zs)) e) in
    let g : same (pos 0) z ≡ false = failed _ ((not-decides (same-decides (pos 0) z)).from (λ p. f (sym p))) in
    rw (h, g) (zero-before (y ∷ zs) (and_right (not (same z (pos 0))) (is_closed (y ∷ zs)) e))

-- The position

module _ (s : List ℕ) (at : ℕ) where
  pub at-end : at ≡ length s → line_at s at ≡ end
  at-end e = rw (eq-eqb at (length s) e)

  pub at-line : (at ≡ length s → ⊥) → line_at s at ≡ line_from at (drop at s)
  at-line k = rw (ne_eqb at (length s) k)

  pub at-past : length s < at → line_at s at ≡ refused Malformed
  at-past l =
      let e : drop at s ≡ [] = drop_of_length-le s {i = at} (omega arith) in
      rw (ne_eqb at (length s) (λ k. omega arith), e)

  -- question 21
  pub read-long : longest < length s → line_read s at ≡ refused TooLong
  read-long h = rw (lt-ltb longest (length s) h)

  pub read_short : length s ≤ longest → line_read s at ≡ line_at s at
  read_short h = rw (le-ltb longest (length s) h)

-- An answered line

-- it ends past the position, within a text of n bytes, and its numbers pass questions 22 to 25
abbrev pub Passed : ℕ → ℕ → LineAt → Type 0
Passed at n end = Unit {0}
Passed at n (refused k) = Unit {0}
Passed at n (line x zs next) = (at < next) × (next ≤ n) × (line_refusal x zs ≡ None) × (has (pos 0) zs ≡ false)

module _ (at n : ℕ) where
  asked-passed : (x : Letter) (zs : List ℤ) (next : ℕ) → at < next → next ≤ n → has (pos 0) zs ≡ false → Passed at n (line_asked x zs next)
  asked-passed x zs next h l f = by (line_refusal x zs) refl
    where
      by : (o : Option ProofFault) → line_refusal x zs ≡ o → Passed at n (refused_or o (line x zs next))
      by None e = (h, l, e, f)
      by (Some k) e = tt

  cond-passed : (t : Bool) (l : LineAt) → (t ≡ true → Passed at n l) → Passed at n (cond t l (refused Malformed))
  cond-passed true l p = p refl
  cond-passed false l p = tt

  numbers-passed : (x : Letter) (from : ℕ) (s : List ℕ) → at < from → from + length s ≤ n → Passed at n (of_numbers x from (line_of s))
  numbers-passed x from s h l = by (line_of s) refl
    where
      by : (k : Line) → line_of s ≡ k → Passed at n (of_numbers x from k)
      by broken e = tt
      by (numbers zs k) e =
          let b = bounds_of s zs k e in
          cond-passed (is_closed zs) _ (λ q. asked-passed x (take (length zs - 1) zs) (from + k) (omega arith) (omega arith) (zero-before zs q))

  letter-passed : (x : Letter) (from : ℕ) (s : List ℕ) → at < from → from + length s ≤ n → Passed at n (after_letter x from s)
  letter-passed x from [] h l = tt
  letter-passed x from (b ∷ s) h l = cond-passed (is_space (class_of b)) _ (λ q. numbers-passed x (from + 1) s (omega arith) (omega arith))

  first-passed : (k : Class) (from : ℕ) (s : List ℕ) → at < from → from + length s ≤ n → Passed at n (after_first k from s)
  first-passed (Step x) from s h l = letter-passed x from s h l
  first-passed Newline from s h l = tt
  first-passed Space from s h l = tt
  first-passed Minus from s h l = tt
  first-passed (Digit d) from s h l = tt
  first-passed Other from s h l = tt

  -- s is what is left at the position
  line-passed : (s : List ℕ) → length s ≡ n - at → Passed at n (line_from at s)
  line-passed [] e = tt
  line-passed (b ∷ s) e = first-passed (class_of b) (at + 1) s (omega arith) (omega arith)

pub passed : (s : List ℕ) (at : ℕ) → Passed at (length s) (line_at s at)
passed s at = by (eqb at (length s))
  where
    by : (u : Bool) → Passed at (length s) (cond u end (line_from at (drop at s)))
    by true = tt
    by false = line-passed at (length s) (drop at s) (length-drop at s)

pub passed-line : (s : List ℕ) (at : ℕ) {x : Letter} {zs : List ℤ} {next : ℕ} → line_at s at ≡ line x zs next
    → (at < next) × (next ≤ length s) × (line_refusal x zs ≡ None) × (has (pos 0) zs ≡ false)
passed-line s at e = subst (Passed at (length s)) e (passed s at)

-- no more numbers than the array has
pub few : (x : Letter) (zs : List ℤ) → line_refusal x zs ≡ None → length zs ≤ most_numbers
few x zs e = by (any_outside zs || ltb most_numbers (length zs)) _ refl e
  where
    by : (t : Bool) (o : Option ProofFault) → (any_outside zs || ltb most_numbers (length zs)) ≡ t → cond t (Some OutOfRange) o ≡ None → length zs ≤ most_numbers
    by true o k e = absurd (let z : ◌≡◌ {A = ℕ} 0 1 = cc in omega arith)
    by false o k e = ltb-false most_numbers (length zs) (or-false-right (any_outside zs) (ltb most_numbers (length zs)) k)

within : (at n : ℕ) (l : LineAt) → Passed at n l → AnswerBounds at n (line_answer l)
within at n end p = tt
within at n (refused k) p = tt
within at n (line x zs next) p = (p.0, p.1, few x zs p.2)

pub answer-within : (s : List ℕ) (at : ℕ) {r : Result (Option ProofLine) ProofFault} → r ≡ line_answer (line_at s at) → AnswerBounds at (length s) r
answer-within s at e = subst (AnswerBounds at (length s)) (sym e) (within at (length s) (line_at s at) (passed s at))

-- what `read_line` says of a text that passes 21, and of one that does not
pub reads_of : {s : List ℕ} {at : ℕ} {r : LineReading} → length s ≤ longest → r.answer ≡ line_answer (line_at s at) → r.numbers ≡ numbers_of (line_at s at)
    → ProofLineRead s at r
reads_of {s} {at} h e n =
    let q = sym (read_short s at h) in
    record { answer = e ∙ ap line_answer q; numbers = n ∙ ap numbers_of q; within = answer-within s at e }
