-- A newline ends each line of a proof text and stands nowhere else in it, so that the last line is found from its end. Assumes nothing.
use mathlib.Core.Path.{◌≡◌, refl, sym, ◌∙◌, ap}
use mathlib.Core.Logic.{inl, inr}
use mathlib.Core.Bool.{Bool, true, false, true≢false}
use mathlib.Core.List.Memᴰ
use mathlib.Core.List.{List, [], ◌∷◌, ◌++◌, append-nil, append_assoc}
use Prim.Native.Nat.{ℕ, suc, ◌+◌, ◌-◌, ◌<◌, ◌≤◌}
use native.Mathlib.Omega.{arith}
use borrow.Author.Tests.{ltb-true, ltb-false}
use lib.Dec.{ltb}
use lib.IntN.{ℤ, pos, negsuc}
use lib.ListN.{length, take, get_or, length-append, get_or-append}
use lib.Seq.{length-take-le, get_or-take, get_or_at, get_or-append-add}
use Rattle.words.specs.Lists.{◌∈◌}
use Rattle.words.proofs.Lists.{each-cons}
use Rattle.words.proofs.Places.{in-at}
use Rattle.text.specs.Bytes.{byte_of, class_of}
use Rattle.text.specs.Decimals.{digits_of, digit_byte, decimal, number_bytes, spaced}
use Rattle.text.specs.declared.Letter.{Letter}
use Rattle.text.specs.declared.Letter.TheVariants.{Addition, Body, Completion, Deletion, Extension, Loop, Support}
use Rattle.text.specs.declared.Class.{Class}
use Rattle.text.proofs.Spelling.{Byte, byte-of}
use Rattle.drupe.specs.Texts.{Step, step_text, text_of}
use Rattle.drupe.proofs.Texts.{some_byte, text-append}
use Rattle.trimming.specs.Passing.{is_newline, LastLine}

-- the one byte of its class
newline-of : (c : Class) (b : ℕ) → Byte b c → is_newline c ≡ true → b ≡ 10
newline-of Class.Newline b o e = o
newline-of Class.Space b o e = absurd (true≢false (sym e))
newline-of Class.Minus b o e = absurd (true≢false (sym e))
newline-of (Class.Digit d) b o e = absurd (true≢false (sym e))
newline-of (Class.Step x) b o e = absurd (true≢false (sym e))
newline-of Class.Other b o e = absurd (true≢false (sym e))

no-newline : (b : ℕ) → is_newline (class_of b) ≡ false → ¬ (b ≡ 10)
no-newline b e p = true≢false (rw p at e)

-- no byte is a newline
abbrev Unbroken : List ℕ → Type 0
Unbroken l = (b : ℕ) → b ∈ l → ¬ (b ≡ 10)

unbroken-append : (k l : List ℕ) → Unbroken k → Unbroken l → Unbroken (k ++ l)
unbroken-append k l f g b m = elim (Memᴰ.append_cases k m) [ inl i ↦ f b i | inr i ↦ g b i ]

unbroken-decimal : (m : ℕ) → Unbroken (decimal m)
unfolding decimal
unbroken-decimal m b i e = let d = Memᴰ.of_map digit_byte (digits_of m) i in omega (arith, d.2, e)

unbroken-number : (z : ℤ) → Unbroken (number_bytes z)
unfolding number_bytes
unbroken-number (pos m) = unbroken-decimal m
unbroken-number (negsuc m) = each-cons (λ e. omega (arith, e)) (unbroken-decimal (suc m))

unbroken-spaced : (zs : List ℤ) → Unbroken (spaced zs)
unfolding spaced
unbroken-spaced [] = λ b i. elim i [ ]
unbroken-spaced (z ∷ zs) = each-cons (λ e. omega (arith, e)) (unbroken-append (number_bytes z) (spaced zs) (unbroken-number z) (unbroken-spaced zs))

letter-byte : (x : Letter) → ¬ (byte_of x ≡ 10)
letter-byte Addition e = omega (arith, e)
letter-byte Body e = omega (arith, e)
letter-byte Completion e = omega (arith, e)
letter-byte Deletion e = omega (arith, e)
letter-byte Extension e = omega (arith, e)
letter-byte Loop e = omega (arith, e)
letter-byte Support e = omega (arith, e)

-- a step's text: bytes without a newline, and then one
record Line (t : Step) : Type 0 where
  bytes : List ℕ
  unbroken : Unbroken bytes
  is : step_text t ≡ bytes ++ (10 ∷ [])

line_of : (t : Step) → Line t
unfolding step_text
line_of t = record {
  bytes = byte_of t.letter ∷ (spaced t.numbers ++ (32 ∷ 48 ∷ []));
  unbroken = each-cons (letter-byte t.letter)
      (unbroken-append (spaced t.numbers) (32 ∷ 48 ∷ []) (unbroken-spaced t.numbers)
      (each-cons (λ e. omega (arith, e)) (each-cons (λ e. omega (arith, e)) (λ b i. elim i [ ]))));
  is = ap (λ (l : List ℕ). byte_of t.letter ∷ l) (sym (append_assoc (spaced t.numbers) (32 ∷ 48 ∷ []) (10 ∷ [])));
}

-- The last step

pub text-last : (front : List Step) (t : Step) → text_of (front ++ (t ∷ [])) ≡ text_of front ++ step_text t
unfolding text_of
text-last front t = text-append front (t ∷ []) ∙ ap (λ (l : List ℕ). text_of front ++ l) (append-nil (step_text t))

pub last_step : {A : Type 0} (t : A) (ts : List A) → (front : List A) × (u : A) × (t ∷ ts ≡ front ++ (u ∷ []))
last_step t [] = ([], t, refl)
last_step {A} t (u ∷ ts) = let r = last_step u ts in (t ∷ r.0, r.1, ap (λ (l : List A). t ∷ l) r.2)

-- a text that is no text of no steps ends with a newline
ends-line : (ts : List Step) (rest : List ℕ) → 0 < length (text_of ts) → get_or (text_of ts ++ rest) (length (text_of ts) - 1) 0 ≡ 10
unfolding text_of
ends-line [] rest h = absurd (omega arith)
ends-line (t ∷ ts) rest h =
    let r = last_step t ts in
    let l = line_of r.1 in
    let p : text_of (t ∷ ts) ≡ (text_of r.0 ++ l.bytes) ++ (10 ∷ []) =
    ap text_of r.2 ∙ text-last r.0 r.1 ∙ ap (λ (k : List ℕ). text_of r.0 ++ k) l.is ∙ sym (append_assoc (text_of r.0) l.bytes (10 ∷ [])) in
    by (text_of (t ∷ ts)) (text_of r.0 ++ l.bytes) p
  where
    by : (whole front : List ℕ) → whole ≡ front ++ (10 ∷ []) → get_or (whole ++ rest) (length whole - 1) 0 ≡ 10
    by whole front p =
        let n = ap length p ∙ length-append front (10 ∷ []) in
        ap (λ (l : List ℕ). get_or (l ++ rest) (length whole - 1) 0) p ∙ ap (λ (l : List ℕ). get_or l (length whole - 1) 0) (append_assoc front (10 ∷ []) rest)
        ∙ get_or_at front 10 rest 0 (length whole - 1) (omega (arith, n))

-- within the last line there is none before its end
within-line : (front : List Step) (t : Step) (i : ℕ) → length (text_of front) ≤ i → i + 1 < length (text_of front ++ step_text t) → ¬ (get_or (text_of front ++ step_text t) i 0 ≡ 10)
within-line front t i h k e =
    let l = line_of t in
    let n = length-append (text_of front) (step_text t) in
    let m = ap length l.is ∙ length-append l.bytes (10 ∷ []) in
    let j : i ≡ length (text_of front) + (i - length (text_of front)) = omega (arith, h) in
    let s : i - length (text_of front) < length l.bytes = omega (arith, h, k, n, m) in
    let q : get_or (text_of front ++ step_text t) i 0 ≡ get_or l.bytes (i - length (text_of front)) 0 =
    ap (λ (x : ℕ). get_or (text_of front ++ step_text t) x 0) j ∙ get_or-append-add (text_of front) (step_text t) (i - length (text_of front)) 0
    ∙ ap (λ (x : List ℕ). get_or x (i - length (text_of front)) 0) l.is ∙ get_or-append l.bytes (10 ∷ []) 0 (i - length (text_of front)) s in
    l.unbroken _ (in-at 0 l.bytes (i - length (text_of front)) s) (sym q ∙ e)

-- Going back to it

-- the line that ends at `end` begins at `start` or before
abbrev pub NoLater : (text : List ℕ) → (end start : ℕ) → Type 0
NoLater text end start = (front : List Step) (t : Step) → take end text ≡ text_of (front ++ (t ∷ [])) → length (text_of front) ≤ start

module _ (text : List ℕ) (end : ℕ) (inside : end ≤ length text) where
  long : (front : List Step) (t : Step) → take end text ≡ text_of (front ++ (t ∷ [])) → end ≡ length (text_of front ++ step_text t)
  long front t p = sym (length-take-le end text inside) ∙ ap length (p ∙ text-last front t)

  byte : (front : List Step) (t : Step) → take end text ≡ text_of (front ++ (t ∷ [])) → (i : ℕ) → i < end → get_or text i 0 ≡ get_or (text_of front ++ step_text t) i 0
  byte front t p i h = sym (get_or-take end text i 0 h) ∙ ap (λ (l : List ℕ). get_or l i 0) (p ∙ text-last front t)

  pub later-none : NoLater text end (end - 1)
  later-none front t p = omega (arith, long front t p, length-append (text_of front) (step_text t), some_byte t)

  pub later-on : (start : ℕ) → 0 < start → start < end → is_newline (class_of (get_or text (start - 1) 0)) ≡ false → NoLater text end start → NoLater text end (start - 1)
  later-on start z h f g front t p = by (ltb (length (text_of front)) start) refl
    where
      by : (b : Bool) → ltb (length (text_of front)) start ≡ b → length (text_of front) ≤ start - 1
      by true e = omega (arith, ltb-true (length (text_of front)) start e)
      by false e =
          let s : length (text_of front) ≡ start = omega (arith, ltb-false (length (text_of front)) start e, g front t p) in
          absurd (no-newline (get_or text (start - 1) 0) f (byte front t p (start - 1) (omega arith) ∙ rw (← s) (ends-line front (step_text t) (omega (arith, s, z)))))

  pub line-found : (start : ℕ) → 0 < start → start < end → is_newline (class_of (get_or text (start - 1) 0)) ≡ true → NoLater text end start → LastLine text end start
  line-found start z h f g front t p = by (ltb (length (text_of front)) start) refl
    where
      by : (b : Bool) → ltb (length (text_of front)) start ≡ b → start ≡ length (text_of front)
      by true e =
          absurd (within-line front t (start - 1) (omega (arith, ltb-true (length (text_of front)) start e)) (omega (arith, long front t p, h, z))
          (sym (byte front t p (start - 1) (omega (arith, h, z))) ∙ newline-of (class_of (get_or text (start - 1) 0)) (get_or text (start - 1) 0) (byte-of (get_or text (start - 1) 0)) f))
      by false e = omega (arith, ltb-false (length (text_of front)) start e, g front t p)

  pub line_first : NoLater text end 0 → LastLine text end 0
  line_first g front t p = omega (arith, g front t p)
