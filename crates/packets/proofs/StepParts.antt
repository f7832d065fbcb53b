-- The steps in a packet's bytes: those of steps that pass are read back, and bytes that are read are those of the steps.
-- Assumes nothing.
use mathlib.Core.Path.{◌≡◌, refl, sym, ◌∙◌, ap, ap₂}
use mathlib.Core.Bool.{Bool, true, false, cond, not, ◌||◌, true≢false}
use mathlib.Core.Option.{Option, none, some, some-injective, none-ne-some}
use Rattle.std.specs.Prelude.{Option as Answer, Some, None}
use mathlib.Core.List.Memᴰ
use mathlib.Core.List.{List, [], ◌∷◌, ◌++◌}
use Prim.Native.Nat.{ℕ, zero, suc, ◌*◌, ◌<◌, ◌≤◌}
use native.Mathlib.Omega.{arith}
use borrow.Author.Tests.{le-leb, leb-true, not-true}
use lib.Dec.{leb, ltb}
use lib.IntN.{ℤ, pos, negsuc}
use lib.Signed.{mag}
use lib.ListN.{length, take, drop, length-append, take-append-drop}
use lib.Seq.{drop_at}
use Rattle.words.specs.Limits.{largest, most_numbers}
use Rattle.words.specs.Literals.{variable, has}
use Rattle.words.proofs.Lists.{and_left, and_right, or-false-left, zero_one}
use Rattle.text.specs.Bytes.{byte_of, class_of}
use Rattle.text.specs.Line.{any_outside}
use Rattle.text.specs.declared.Letter.{Letter}
use Rattle.text.specs.declared.Class.{Class}
use Rattle.text.proofs.Spelling.{Byte, byte-of, class-letter}
use Rattle.aspif.proofs.Formed.{inside}
use Rattle.drupe.specs.Lines.{all_passed, line_refusal}
use Rattle.drupe.specs.Texts.{Step, LinePasses}
use Rattle.drupe.proofs.Texts.{AllPass, pass-one}
use Rattle.packets.specs.Bytes.{bytes_of, numbers_from}
use Rattle.packets.specs.Packets.{steps_bytes, fills, letter_in, step_passes, prepend, step_with, steps_from}
use Rattle.packets.specs.Claims.{Bytes}
use Rattle.packets.proofs.Littles.{InRange, bytes-tail, bytes-part, length-bytes, numbers-back, length-numbers, numbers-whole}
use Rattle.drupe.specs.declared.ProofFault.TheVariants.{OutOfRange}
use Rattle.drupe.specs.declared.ProofFault.{ProofFault}

-- One step

pub pass-test : (t : Step) → LinePasses t → step_passes t ≡ true
unfolding step_passes
pass-test t p = rw (p.1, p.0)

pub test-pass : (t : Step) → step_passes t ≡ true → LinePasses t
unfolding step_passes
test-pass t e = (by (line_refusal t.letter t.numbers) (and_right (not (has (pos 0) t.numbers)) _ e), not-true _ (and_left _ _ e))
  where
    by : (o : Answer ProofFault) → all_passed o ≡ true → o ≡ None
    by None e = refl
    by (Some k) e = absurd (true≢false (sym e))

inside-line : (x : Letter) (zs : List ℤ) → line_refusal x zs ≡ None → any_outside zs ≡ false
inside-line x zs e = by (any_outside zs || ltb most_numbers (length zs)) _ refl e
  where
    by : (t : Bool) (o : Answer ProofFault) → (any_outside zs || ltb most_numbers (length zs)) ≡ t → cond t (Some OutOfRange) o ≡ None → any_outside zs ≡ false
    by true o k e = absurd (zero_one (cc))
    by false o k e = or-false-left (any_outside zs) (ltb most_numbers (length zs)) k

pub small : (z : ℤ) → variable z ≤ largest → mag z < 32768
small (pos n) h = omega arith
small (negsuc n) h = omega arith

in-range : (t : Step) → LinePasses t → InRange 1 t.numbers
in-range t p z m = small z (inside t.numbers (inside-line t.letter t.numbers p.0) z m)

-- Steps that pass

pub fills-back : (ts : List Step) → fills (length ts) (steps_bytes ts) ≡ true
unfolding fills
fills-back [] = refl
fills-back (t ∷ ts) =
    let b = bytes_of 2 t.numbers in
    let l = length-bytes 2 t.numbers in
    rw (le-leb (2 * length t.numbers) (length (b ++ steps_bytes ts)) (omega (arith, length-append b (steps_bytes ts))), drop_at b (steps_bytes ts) (2 * length t.numbers) l)
    (fills-back ts)

pub steps_back : (ts : List Step) → AllPass ts → steps_from (length ts) (steps_bytes ts) ≡ some ts
unfolding steps_from
steps_back [] f = refl
steps_back (t ∷ ts) f =
    let p = f t (Memᴰ.head refl) in
    let b = bytes_of 2 t.numbers in
    rw (class-letter t.letter, numbers-back 1 t.numbers (steps_bytes ts) (in-range t p), drop_at b (steps_bytes ts) (2 * length t.numbers) (length-bytes 2 t.numbers), pass-test t p, steps_back ts (λ u m. f u (Memᴰ.tail m)))

-- Bytes that are read

letter-byte : (b : ℕ) (x : Letter) → letter_in (class_of b) ≡ some x → b ≡ byte_of x
letter-byte b x = by (class_of b) (byte-of b)
  where
    by : (c : Class) → Byte b c → letter_in c ≡ some x → b ≡ byte_of x
    by (Class.Step y) o e = o ∙ ap byte_of (some-injective _ _ e)
    by Class.Newline o e = absurd (none-ne-some x e)
    by Class.Space o e = absurd (none-ne-some x e)
    by Class.Minus o e = absurd (none-ne-some x e)
    by (Class.Digit d) o e = absurd (none-ne-some x e)
    by Class.Other o e = absurd (none-ne-some x e)

-- a step is read, and those after it
record FirstRead (l : Option Letter) (zs : List ℤ) (o : Option (List Step)) (ts : List Step) : Type 0 where
  x : Letter
  us : List Step
  letter : l ≡ some x
  passes : step_passes (record { letter = x; numbers = zs }) ≡ true
  later : o ≡ some us
  all : ts ≡ record { letter = x; numbers = zs } ∷ us

first_read : (l : Option Letter) (zs : List ℤ) (o : Option (List Step)) (ts : List Step) → step_with l zs o ≡ some ts → FirstRead l zs o ts
first_read none zs o ts e = absurd (none-ne-some ts e)
first_read (some x) zs o ts e = by (step_passes (record { letter = x; numbers = zs })) o refl e
  where
    by : (b : Bool) (o : Option (List Step)) → step_passes (record { letter = x; numbers = zs }) ≡ b
        → cond b (prepend (record { letter = x; numbers = zs }) o) none ≡ some ts → FirstRead (some x) zs o ts
    by false o p e = absurd (none-ne-some ts e)
    by true none p e = absurd (none-ne-some ts e)
    by true (some us) p e = record { x = x; us = us; letter = refl; passes = p; later = refl; all = sym (some-injective _ _ e) }

pub record StepsThere (n : ℕ) (bs : List ℕ) (ts : List Step) : Type 0 where
  pub count : length ts ≡ n
  pub passes : AllPass ts
  pub bytes : Bytes bs → bs ≡ steps_bytes ts

pub steps-there : (n : ℕ) (bs : List ℕ) (ts : List Step) → fills n bs ≡ true → steps_from n bs ≡ some ts → StepsThere n bs ts
unfolding fills steps_from
steps-there zero [] ts f e = rw (sym (some-injective _ _ e)) (record { count = refl; passes = λ t m. elim m [ ]; bytes = λ _. refl })
steps-there zero (b ∷ bs) ts f e = absurd (true≢false (sym f))
steps-there (suc n) [] ts f e = absurd (true≢false (sym f))
steps-there (suc n) (x ∷ []) ts f e = absurd (true≢false (sym f))
steps-there (suc n) (x ∷ c ∷ bs) ts f e =
    let zs = numbers_from 2 c bs in
    let r = first_read (letter_in (class_of x)) zs (steps_from n (drop (2 * c) bs)) ts e in
    let h = leb-true (2 * c) (length bs) (and_left _ _ f) in
    let t : Step = record { letter = r.x; numbers = zs } in
    let s = steps-there n (drop (2 * c) bs) r.us (and_right (leb (2 * c) (length bs)) _ f) r.later in
    let l = length-numbers 2 c bs in
    rw r.all (record {
      count = ap suc s.count;
      passes = pass-one (test-pass t r.passes) s.passes;
      bytes = λ g.
          let k = bytes-tail (bytes-tail g) in
          let q = bytes-part (2 * c) bs k in
          let w : bytes_of 2 zs ≡ take (2 * c) bs = numbers-whole 2 c bs h k in
          ap₂ (λ (a : ℕ) (l : List ℕ). a ∷ l) (letter-byte x r.x r.letter) (ap₂ (λ (a : ℕ) (l : List ℕ). a ∷ l) (sym l) (sym (take-append-drop (2 * c) bs) ∙ ap₂ (λ (a b : List ℕ). a ++ b) (sym w) (s.bytes q.1)));
    })
