-- The steps of a text and the text of steps: each is read back from the other.
-- Assumes nothing.
use mathlib.Core.Path.{◌≡◌, refl, sym, ◌∙◌, ap, subst}
use mathlib.Core.Bool.{Bool, true, false, cond, not, true≢false}
use Rattle.std.specs.Prelude.{Option, None, Some}
use mathlib.Core.Logic.{◌⊎◌, inl, inr}
use mathlib.Core.List.Memᴰ
use mathlib.Core.List.{List, [], ◌∷◌, ◌++◌, append-nil, append_assoc}
use Prim.Native.Nat.{ℕ, zero, suc, ◌+◌, ◌-◌, ◌<◌, ◌≤◌}
use native.Mathlib.Omega.{arith}
use borrow.Author.Tests.{le-ltb, lt-ltb, ltb-true, ltb-false, eqb-true}
use lib.Dec.{ltb, eqb}
use lib.IntN.{ℤ, pos}
use lib.ListN.{length, take, drop, length-append, length-drop, drop_of_length-le}
use lib.Seq.{take-append_seam, drop-append_seam, drop-drop}
use Rattle.words.specs.Lists.{◌∈◌}
use Rattle.words.specs.Literals.{same, has}
use Rattle.words.proofs.Lists.{zero_one, if-true, same_test, and_right, or-false-left, or-false-right}
use Rattle.words.proofs.Literals.{same-decides}
use Rattle.text.specs.Bytes.{byte_of, class_of}
use Rattle.text.specs.Decimals.{decimals, decimal, number_bytes, spaced}
use Rattle.text.specs.Writing.{Put}
use Rattle.text.specs.Line.{Line, broken, numbers, line_of, is_closed}
use Rattle.text.proofs.Decimals.{rest, line_bytes, line_read, rest-spaced}
use Rattle.text.proofs.Spelling.{Byte, byte-of, class-letter, line-spelled}
use Rattle.text.specs.declared.Letter.{Letter}
use Rattle.text.specs.declared.Class.{Class}
use Rattle.drupe.specs.Lines.{line_refusal, LineAt, end, line, refused_or, of_numbers, is_space, after_letter, after_first, line_from, line_at}
use Rattle.drupe.specs.Lines as Lines
use Rattle.drupe.specs.Texts.{Step, step_text, text_of, StepsRead, steps, refused, after, steps_at, steps_within, LinePasses, Spelled, ReadBack, StepsExact, Stops, RefusedExact, SameWithin}
use Rattle.drupe.proofs.Lines.{at-end, at-line, passed-line}
use Rattle.drupe.specs.declared.ProofFault.TheVariants.{TooLong, Malformed}
use Rattle.drupe.specs.declared.ProofFault.{ProofFault}

-- The closing 0

same-swap : (x y : ℤ) → same x y ≡ same y x
same-swap x y = same_test (same-decides x y) (same-decides y x) sym sym

closed_on : (z : ℤ) (l : List ℤ) → 0 < length l → same (pos 0) z ≡ false → is_closed l ≡ true → is_closed (z ∷ l) ≡ true
closed_on z [] h f e = absurd (omega arith)
closed_on z (y ∷ l) h f e = rw (same-swap z (pos 0), f) e

pub closed-end : (zs : List ℤ) → has (pos 0) zs ≡ false → is_closed (zs ++ (pos 0 ∷ [])) ≡ true
closed-end [] e = refl
closed-end (z ∷ zs) e =
    closed_on z (zs ++ (pos 0 ∷ [])) (omega (arith, length-append zs (pos 0 ∷ []))) (or-false-left (same (pos 0) z) (has (pos 0) zs) e)
    (closed-end zs (or-false-right (same (pos 0) z) (has (pos 0) zs) e))

pub before-end : (zs : List ℤ) → take (length (zs ++ (pos 0 ∷ [])) - 1) (zs ++ (pos 0 ∷ [])) ≡ zs
before-end zs =
    let e : length (zs ++ (pos 0 ∷ [])) - 1 ≡ length zs = omega (arith, length-append zs (pos 0 ∷ [])) in
    rw e (take-append_seam zs (pos 0 ∷ []))

pub end-closed : (zs : List ℤ) → is_closed zs ≡ true → zs ≡ take (length zs - 1) zs ++ (pos 0 ∷ [])
end-closed [] e = absurd (true≢false (sym e))
end-closed (z ∷ []) e = ap (λ (y : ℤ). y ∷ []) (if-true (same-decides z (pos 0)) e)
end-closed (z ∷ y ∷ zs) e =
    let h : suc (suc (length zs)) - 1 ≡ suc (suc (length zs) - 1) = omega arith in
    rw h (ap (λ (l : List ℤ). z ∷ l) (end-closed (y ∷ zs) (and_right (not (same z (pos 0))) (is_closed (y ∷ zs)) e)))

-- A step's bytes

ended : (zs : List ℤ) → spaced zs ++ (32 ∷ 48 ∷ 10 ∷ []) ≡ rest (zs ++ (pos 0 ∷ []))
unfolding rest number_bytes decimal decimals
ended zs = sym (rest-spaced zs (pos 0 ∷ []))

pub some_byte : (t : Step) → 0 < length (step_text t)
unfolding step_text
some_byte t = omega arith

-- the letter, the numbers and the end of the line, put one after another
pub step-put : (x : Letter) (zs : List ℤ) {before next : List ℕ} {at end : ℕ} → Put (byte_of x ∷ (spaced zs ++ (32 ∷ 48 ∷ 10 ∷ []))) before next at end
    → Put (step_text (record { letter = x; numbers = zs })) before next at end
unfolding step_text
step-put x zs p = p

step-bytes : (x : Letter) (zs : List ℤ) (y : ℤ) (ys : List ℤ) → zs ++ (pos 0 ∷ []) ≡ y ∷ ys → step_text (record { letter = x; numbers = zs }) ≡ byte_of x ∷ 32 ∷ line_bytes y ys
unfolding step_text rest line_bytes
step-bytes x zs y ys e = ap (λ (l : List ℕ). byte_of x ∷ l) (ended zs ∙ ap rest e)

-- a step's text, where it stands, is read as the step
module _ (x : Letter) (zs : List ℤ) (p : LinePasses (record { letter = x; numbers = zs })) where
  numbers-back : (from n : ℕ) → of_numbers x from (numbers (zs ++ (pos 0 ∷ [])) n) ≡ line x zs (from + n)
  numbers-back from n = rw (closed-end zs p.1, before-end zs, p.0)

  bytes_back : (y : ℤ) (ys : List ℤ) → zs ++ (pos 0 ∷ []) ≡ y ∷ ys → (at : ℕ) (r : List ℕ)
      → line_from at (byte_of x ∷ 32 ∷ (line_bytes y ys ++ r)) ≡ line x zs (at + 1 + 1 + length (line_bytes y ys))
  bytes_back y ys e at r =
      rw (class-letter x, line_read y ys r)
      (ap (λ (l : List ℤ). of_numbers x (at + 1 + 1) (numbers l (length (line_bytes y ys)))) (sym e) ∙ numbers-back (at + 1 + 1) (length (line_bytes y ys)))

  closing : (y : ℤ) × (ys : List ℤ) × (zs ++ (pos 0 ∷ []) ≡ y ∷ ys)
  closing = by zs
    where
      by : (l : List ℤ) → (y : ℤ) × (ys : List ℤ) × (l ++ (pos 0 ∷ []) ≡ y ∷ ys)
      by [] = (pos 0, [], refl)
      by (z ∷ l) = (z, l ++ (pos 0 ∷ []), refl)

  pub line-back : (at : ℕ) (r : List ℕ)
      → line_from at (step_text (record { letter = x; numbers = zs }) ++ r) ≡ line x zs (at + length (step_text (record { letter = x; numbers = zs })))
  line-back at r =
      let c = closing in
      let e = step-bytes x zs c.0 c.1 c.2 in
      let n : at + 1 + 1 + length (line_bytes c.0 c.1) ≡ at + length (byte_of x ∷ 32 ∷ line_bytes c.0 c.1) = omega arith in
      rw e (bytes_back c.0 c.1 c.2 at r ∙ ap (line x zs) n)

-- a line that is read is the text of its step
abbrev Spelt : List ℕ → LineAt → Type 0
Spelt s end = ⊥
Spelt s (Lines.refused k) = Unit {0}
Spelt s (line x zs next) = (r : List ℕ) × (s ≡ step_text (record { letter = x; numbers = zs }) ++ r)

cond-spelt : (s : List ℕ) (t : Bool) (l : LineAt) → (t ≡ true → Spelt s l) → Spelt s (cond t l (Lines.refused Malformed))
cond-spelt s true l f = f refl
cond-spelt s false l f = tt

space-of : (c : Class) (b : ℕ) → Byte b c → is_space c ≡ true → b ≡ 32
space-of Class.Space b o e = o
space-of Class.Newline b o e = absurd (true≢false (sym e))
space-of Class.Minus b o e = absurd (true≢false (sym e))
space-of (Class.Digit d) b o e = absurd (true≢false (sym e))
space-of (Class.Step x) b o e = absurd (true≢false (sym e))
space-of Class.Other b o e = absurd (true≢false (sym e))

numbers-spelt : (x : Letter) (from : ℕ) (s : List ℕ) → Spelt (byte_of x ∷ 32 ∷ s) (of_numbers x from (line_of s))
numbers-spelt x from s = by (line_of s) refl
  where
    S : List ℕ
    S = byte_of x ∷ 32 ∷ s

    asks : (o : Option ProofFault) (zs : List ℤ) (next : ℕ) → (r : List ℕ) × (S ≡ step_text (record { letter = x; numbers = zs }) ++ r) → Spelt S (refused_or o (line x zs next))
    asks (Some k) zs next f = tt
    asks None zs next f = f

    by : (l : Line) → line_of s ≡ l → Spelt S (of_numbers x from l)
    by broken e = tt
    by (numbers [] n) e = tt
    by (numbers (y ∷ ys) n) e =
        cond-spelt S (is_closed (y ∷ ys)) _ (λ q.
        let zs = take (length (y ∷ ys) - 1) (y ∷ ys) in
        let p = line-spelled s y ys n e in
        asks (line_refusal x zs) zs (from + n) (
          p.0,
          ap (λ (l : List ℕ). byte_of x ∷ 32 ∷ l) p.1 ∙ ap (λ (l : List ℕ). l ++ p.0) (sym (step-bytes x zs y ys (sym (end-closed (y ∷ ys) q)))),
        ))

letter-spelt : (x : Letter) (b from : ℕ) (s : List ℕ) → b ≡ byte_of x → Spelt (b ∷ s) (after_letter x from s)
letter-spelt x b from [] e = tt
letter-spelt x b from (c ∷ s) e =
    cond-spelt (b ∷ c ∷ s) (is_space (class_of c)) _ (λ q. rw (e, space-of (class_of c) c (byte-of c) q) (numbers-spelt x (from + 1) s))

line-spelt : (at : ℕ) (s : List ℕ) → Spelt s (line_from at s)
line-spelt at [] = tt
line-spelt at (b ∷ s) = by (class_of b) (byte-of b)
  where
    by : (c : Class) → Byte b c → Spelt (b ∷ s) (after_first c (at + 1) s)
    by (Class.Step x) o = letter-spelt x b (at + 1) s o
    by Class.Newline o = tt
    by Class.Space o = tt
    by Class.Minus o = tt
    by (Class.Digit d) o = tt
    by Class.Other o = tt

-- Lines at a position

same_line : {x y : Letter} {zs ys : List ℤ} {n m : ℕ} → line x zs n ≡ line y ys m → n ≡ m
same_line e = cc

module _ (text : List ℕ) (at : ℕ) where
  end_is : line_at text at ≡ end → at ≡ length text
  end_is e = by (eqb at (length text)) refl e
    where
      by : (u : Bool) → eqb at (length text) ≡ u → cond u end (line_from at (drop at text)) ≡ end → at ≡ length text
      by true q e = eqb-true at (length text) q
      by false q e = absurd (subst (Spelt (drop at text)) e (line-spelt at (drop at text)))

  line-is : {x : Letter} {zs : List ℤ} {next : ℕ} → line_at text at ≡ line x zs next → line_from at (drop at text) ≡ line x zs next
  line-is {x} {zs} {next} e = by (eqb at (length text)) e
    where
      by : (u : Bool) → cond u end (line_from at (drop at text)) ≡ line x zs next → line_from at (drop at text) ≡ line x zs next
      by true e = absurd (zero_one (cc))
      by false e = e

  dropped : (s r : List ℕ) (n : ℕ) → n ≡ at + length s → drop at text ≡ s ++ r → drop n text ≡ r
  dropped s r n e q = rw e (sym (drop-drop (length s) at text) ∙ ap (drop (length s)) q ∙ drop-append_seam s r)

  pub at-spelled : {x : Letter} {zs : List ℤ} {next : ℕ} → line_at text at ≡ line x zs next
      → (drop at text ≡ step_text (record { letter = x; numbers = zs }) ++ drop next text) × (next ≡ at + length (step_text (record { letter = x; numbers = zs })))
  at-spelled {x} {zs} {next} e =
      let u = passed-line text at e in
      let p = subst (Spelt (drop at text)) (line-is e) (line-spelt at (drop at text)) in
      let q = line-back x zs (u.2, u.3) at p.0 in
      let n = same_line (sym (line-is e) ∙ ap (line_from at) p.1 ∙ q) in (
        p.1 ∙ ap (λ (l : List ℕ). step_text (record { letter = x; numbers = zs }) ++ l) (sym (dropped (step_text (record { letter = x; numbers = zs })) p.0 next n p.1)),
        n,
      )

-- Steps one after another

-- every step passes
abbrev pub AllPass : List Step → Type 0
AllPass ts = (t : Step) → t ∈ ts → LinePasses t

pub pass-one : {t : Step} {ts : List Step} → LinePasses t → AllPass ts → AllPass (t ∷ ts)
pass-one p f u (Memᴰ.head q) = rw q p
pass-one p f u (Memᴰ.tail m) = f u m

pub pass-append : (ts us : List Step) → AllPass ts → AllPass us → AllPass (ts ++ us)
pass-append ts us f g t m = elim (Memᴰ.append_cases ts m) [ inl i ↦ f t i | inr i ↦ g t i ]

pub text-append : (ts us : List Step) → text_of (ts ++ us) ≡ text_of ts ++ text_of us
unfolding text_of
text-append [] us = refl
text-append (t ∷ ts) us = ap (λ (l : List ℕ). step_text t ++ l) (text-append ts us) ∙ sym (append_assoc (step_text t) (text_of ts) (text_of us))

-- steps before those that are read
abbrev behind : List Step → StepsRead → StepsRead
behind [] o = o
behind (t ∷ ts) o = after t (behind ts o)

behind-steps : (ts us : List Step) → behind ts (steps us) ≡ steps (ts ++ us)
behind-steps [] us = refl
behind-steps (t ∷ ts) us = ap (after t) (behind-steps ts us)

behind-refused : (ts us : List Step) (k : ProofFault) (n : ℕ) → behind ts (refused us k n) ≡ refused (ts ++ us) k n
behind-refused [] us k n = refl
behind-refused (t ∷ ts) us k n = ap (after t) (behind-refused ts us k n)

-- All of them

-- the steps of a text to which question 21 is not put
abbrev pub all_steps : List ℕ → StepsRead
all_steps text = steps_at text (suc (length text)) 0 0

module _ (text : List ℕ) where
  -- what is left of the text is the text of the steps, up to the end or to a line that is refused
  abbrev Stepped : ℕ → ℕ → StepsRead → Type 0
  Stepped at n (steps ts) = (drop at text ≡ text_of ts) × AllPass ts
  Stepped at n (refused ts k m) =
      AllPass ts × ((left : List ℕ) × ((drop at text ≡ text_of ts ++ left) × ((line_at text (at + length (text_of ts)) ≡ Lines.refused k) × (m ≡ n + length ts + 1))))

  stepped : (turns at n : ℕ) → at ≤ length text → length text < turns + at → Stepped at n (steps_at text turns at n)
  unfolding steps_at text_of
  stepped zero at n h l = absurd (omega arith)
  stepped (suc turns) at n h l = by (λ next a b. stepped turns next (n + 1) a (omega arith)) (line_at text at) refl
    where
      on : (t : Step) (next : ℕ) (o : StepsRead) → LinePasses t → drop at text ≡ step_text t ++ drop next text → next ≡ at + length (step_text t) → Stepped next (n + 1) o → Stepped at n (after t o)
      on t next (steps ts) p q e f = (q ∙ ap (λ (l : List ℕ). step_text t ++ l) f.0, pass-one p f.1)
      on t next (refused ts k m) p q e f =
          let g = f.1.1 in
          let w : next + length (text_of ts) ≡ at + length (step_text t ++ text_of ts) = omega (arith, e, length-append (step_text t) (text_of ts)) in (
            pass-one p f.0,
            (f.1.0, (q ∙ ap (λ (l : List ℕ). step_text t ++ l) g.0 ∙ sym (append_assoc (step_text t) (text_of ts) f.1.0), (rw w at g.1.0, omega (arith, g.1.1)))),
          )

      by : ((next : ℕ) → next ≤ length text → at < next → Stepped next (n + 1) (steps_at text turns next (n + 1))) → (o : LineAt) → line_at text at ≡ o
          → Stepped at n (elim o [
            | end ↦ steps []
            | Lines.refused k ↦ refused [] k (n + 1)
            | line x zs next ↦ after (record { letter = x; numbers = zs }) (steps_at text turns next (n + 1))
          ])
      by f end e = (drop_of_length-le text {i = at} (omega (arith, end_is text at e)), λ t m. elim m [ ])
      by f (Lines.refused k) e =
          let z : at + 0 ≡ at = omega arith in
          (λ t m. elim m [ ], (drop at text, (refl, (rw z e, omega arith))))
      by f (line x zs next) e =
          let u = passed-line text at e in
          let q = at-spelled text at e in
          on (record { letter = x; numbers = zs }) next (steps_at text turns next (n + 1)) (u.2, u.3) q.0 q.1 (f next u.1 u.0)

  -- past the text of steps that pass, with enough turns left
  pub record Past (at n at' n' : ℕ) (ts : List Step) (turns : ℕ) : Type 0 where
    pub left : ℕ
    pub enough : length text < left + at'
    pub within : at' ≤ length text
    pub reads : steps_at text turns at n ≡ behind ts (steps_at text left at' n')

  past : (ts : List Step) (turns at n : ℕ) (left : List ℕ) → AllPass ts → drop at text ≡ text_of ts ++ left → at ≤ length text → length text < turns + at
      → Past at n (at + length (text_of ts)) (n + length ts) ts turns
  unfolding steps_at text_of
  past [] turns at n left p e h l =
      let a : at + 0 ≡ at = omega arith in
      let b : n + 0 ≡ n = omega arith in
      rw (a, b) (record { left = turns; enough = l; within = h; reads = refl })
  past (t ∷ ts) zero at n left p e h l = absurd (omega arith)
  past (t ∷ ts) (suc turns) at n left p e h l =
      let m = length-drop at text in
      let s = append_assoc (step_text t) (text_of ts) left in
      let k = ap length (e ∙ s) in
      let a = length-append (step_text t) (text_of ts ++ left) in
      let b = some_byte t in
      let q = at-line text at (λ q. omega arith) ∙ ap (line_from at) (e ∙ s) ∙ line-back t.letter t.numbers (p t (Memᴰ.head refl)) at (text_of ts ++ left) in
      let d = dropped text at (step_text t) (text_of ts ++ left) (at + length (step_text t)) refl (e ∙ s) in
      let r = past ts turns (at + length (step_text t)) (n + 1) left (λ u i. p u (Memᴰ.tail i)) d (omega arith) (omega arith) in
      let w : at + length (step_text t) + length (text_of ts) ≡ at + length (step_text t ++ text_of ts) = omega (arith, length-append (step_text t) (text_of ts)) in
      let v : n + 1 + length ts ≡ n + suc (length ts) = omega arith in
      let f : steps_at text (suc turns) at n ≡ after t (steps_at text turns (at + length (step_text t)) (n + 1)) = rw (q, steps_at) in
      rw (sym w, sym v) (record { left = r.left; enough = r.enough; within = r.within; reads = f ∙ ap (after t) r.reads })

  -- The whole text, which begins with the text of steps that pass; the position after them
  module _ (ts : List Step) (p : AllPass ts) (left : List ℕ) (e : text ≡ text_of ts ++ left) where
    whole : Past 0 0 (length (text_of ts)) (length ts) ts (suc (length text))
    whole =
        let a : 0 + length (text_of ts) ≡ length (text_of ts) = omega arith in
        let b : 0 + length ts ≡ length ts = omega arith in
        rw (a, b) at (past ts (suc (length text)) 0 0 left p e (omega arith) (omega arith))

    -- with a turn that is left
    turn : (o : StepsRead) → ((turns : ℕ) → steps_at text (suc turns) (length (text_of ts)) (length ts) ≡ o) → all_steps text ≡ behind ts o
    turn o f = whole.reads ∙ ap (behind ts) (by whole.left whole.enough)
      where
        by : (turns : ℕ) → length text < turns + length (text_of ts) → steps_at text turns (length (text_of ts)) (length ts) ≡ o
        by zero l = absurd (let h = whole.within in omega arith)
        by (suc turns) l = f turns

    pub whole-end : line_at text (length (text_of ts)) ≡ end → all_steps text ≡ steps ts
    unfolding steps_at
    whole-end q = turn (steps []) (λ turns. rw (q, steps_at)) ∙ behind-steps ts [] ∙ ap steps (append-nil ts)

    pub whole-refused : (k : ProofFault) → line_at text (length (text_of ts)) ≡ Lines.refused k → all_steps text ≡ refused ts k (length ts + 1)
    unfolding steps_at
    whole-refused k q =
        turn (refused [] k (length ts + 1)) (λ turns. rw (q, steps_at)) ∙ behind-refused ts [] k (length ts + 1) ∙ ap (λ (l : List Step). refused l k (length ts + 1)) (append-nil ts)

-- Question 21

module _ (limit : ℕ) (text : List ℕ) where
  pub short-steps : length text ≤ limit → steps_within limit text ≡ all_steps text
  unfolding steps_within
  short-steps h = rw (le-ltb limit (length text) h)

  pub long-steps : limit < length text → steps_within limit text ≡ refused [] TooLong 0
  unfolding steps_within
  long-steps h = rw (lt-ltb limit (length text) h)

  -- what a text that is short enough comes to
  short-read : (o : StepsRead) → steps_within limit text ≡ o → length text ≤ limit → Stepped text 0 0 o
  short-read o e h = subst (Stepped text 0 0) (sym (short-steps h) ∙ e) (stepped text (suc (length text)) 0 0 (omega arith) (omega arith))

pub same-within : SameWithin
same-within text limit other h k = short-steps limit text h ∙ sym (short-steps other text k)

pub steps-exact : StepsExact
steps-exact limit text ts = (to, from)
  where
    Read : Type 0
    Read = (text ≡ text_of ts) × (length text ≤ limit) × AllPass ts

    to : steps_within limit text ≡ steps ts → Read
    to e = by (ltb limit (length text)) refl
      where
        by : (b : Bool) → ltb limit (length text) ≡ b → Read
        by true q = absurd (let f = sym (long-steps limit text (ltb-true limit (length text) q)) ∙ e in zero_one (cc))
        by false q = let h = ltb-false limit (length text) q in let r = short-read limit text (steps ts) e h in (r.0, h, r.1)

    from : Read → steps_within limit text ≡ steps ts
    from r =
        short-steps limit text r.1
        ∙ whole-end text ts r.2 [] (r.0 ∙ sym (append-nil (text_of ts))) (at-end text (length (text_of ts)) (ap length (sym r.0)))

pub refused-exact : RefusedExact
refused-exact limit text before k n = (to, from)
  where
    Long : Type 0
    Long = (limit < length text) × ((before ≡ []) × ((k ≡ TooLong) × (n ≡ 0)))

    Short : Type 0
    Short = (length text ≤ limit) × ((n ≡ length before + 1) × Stops text before k)

    same : refused [] TooLong 0 ≡ refused before k n → (before ≡ []) × ((k ≡ TooLong) × (n ≡ 0))
    same e = (cc, (cc, cc))

    to : steps_within limit text ≡ refused before k n → Long ⊎ Short
    to e = by (ltb limit (length text)) refl
      where
        by : (b : Bool) → ltb limit (length text) ≡ b → Long ⊎ Short
        by true q = let h = ltb-true limit (length text) q in inl (h, same (sym (long-steps limit text h) ∙ e))
        by false q =
            let h = ltb-false limit (length text) q in
            let r = short-read limit text (refused before k n) e h in
            let g = r.1.1 in
            let a : 0 + length (text_of before) ≡ length (text_of before) = omega arith in
            inr (h, (omega (arith, g.1.1), (r.0, (r.1.0, (g.0, rw a at g.1.0)))))

    from : Long ⊎ Short → steps_within limit text ≡ refused before k n
    from (inl l) = long-steps limit text l.0 ∙ rw (l.1.0, l.1.1.0, l.1.1.1)
    from (inr s) =
        let r = s.1.1 in
        short-steps limit text s.0 ∙ whole-refused text before r.0 r.1.0 r.1.1.0 k r.1.1.1 ∙ ap (refused before k) (sym s.1.0)

pub spelled : Spelled
spelled limit text ts e = ((steps-exact limit text ts).0 e).0

pub read_back : ReadBack
read_back limit ts p h = (steps-exact limit (text_of ts) ts).1 (refl, h, p)

-- A loop that reads a text line by line

-- After n steps it stands at a position; those that it has read pass, and their text is what it has passed.
pub record Walked (text : List ℕ) (at n : ℕ) (before : List Step) : Type 0 where
  pub passes : AllPass before
  pub place : at ≡ length (text_of before)
  pub spelled : text ≡ text_of before ++ drop at text
  pub count : n ≡ length before

pub walked_start : {text : List ℕ} → Walked text 0 0 []
unfolding text_of
walked_start = record { passes = λ t m. elim m [ ]; place = refl; spelled = refl; count = refl }

module _ {text : List ℕ} {at n : ℕ} {before : List Step} (w : Walked text at n before) where
  pub walked_on : {x : Letter} {zs : List ℤ} {next : ℕ} → line_at text at ≡ line x zs next → Walked text next (n + 1) (before ++ (record { letter = x; numbers = zs } ∷ []))
  unfolding text_of
  walked_on {x} {zs} {next} e =
      let t : Step = record { letter = x; numbers = zs } in
      let u = passed-line text at e in
      let q = at-spelled text at e in
      let one : text_of (before ++ (t ∷ [])) ≡ text_of before ++ step_text t = text-append before (t ∷ []) ∙ ap (λ (l : List ℕ). text_of before ++ l) (append-nil (step_text t)) in
      record {
        passes = pass-append before (t ∷ []) w.passes (pass-one (u.2, u.3) (λ v m. elim m [ ]));
        place = rw one (omega (arith, q.1, w.place, length-append (text_of before) (step_text t)));
        spelled = rw one (w.spelled ∙ ap (λ (l : List ℕ). text_of before ++ l) q.0 ∙ sym (append_assoc (text_of before) (step_text t) (drop next text)));
        count = omega (arith, w.count, length-append before (t ∷ []));
      }

  pub walked_end : line_at text at ≡ end → all_steps text ≡ steps before
  walked_end e = whole-end text before w.passes (drop at text) w.spelled (rw w.place at e)

  pub walked-refused : (k : ProofFault) → line_at text at ≡ Lines.refused k → all_steps text ≡ refused before k (n + 1)
  walked-refused k e =
      whole-refused text before w.passes (drop at text) w.spelled k (rw w.place at e) ∙ ap (λ m. refused before k (m + 1)) (sym w.count)
