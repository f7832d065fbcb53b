-- Numbers and lines written as bytes, and that they are read back: `line_read`. The text of a line is the decimal digits of each
-- number, a minus before those of a negative one, a space between two and a newline at the end.
-- Assumes nothing.
use mathlib.Core.Path.{◌≡◌, refl, sym, ◌∙◌, ap, ap₂}
use mathlib.Core.Bool.{Bool, true, false, cond}
use mathlib.Core.Option.{some, none-ne-some}
use mathlib.Core.List.Memᴰ
use mathlib.Core.List.{List, [], ◌∷◌, ◌++◌, map, append-nil, append_assoc, map-append}
use Prim.Native.Nat.{ℕ, zero, suc, ◌+◌, ◌-◌, ◌/◌, ◌%◌, ◌≤◌, ◌<◌}
use native.Mathlib.Nat.{div-add-mod', mod-lt}
use native.Mathlib.Omega.{arith}
use borrow.Author.Tests.{ltb-true, ltb-false, ne_eqb, le-leb}
use lib.Dec.{ltb}
use lib.IntN.{ℤ, pos, negsuc}
use lib.ListN.{length, length-append, length-map}
use Rattle.words.specs.Lists.{◌∈◌}
use Rattle.words.proofs.Lists.{each-cons}
use Rattle.text.specs.Bytes.{class_of}
use Rattle.text.specs.Decimals.{decimals, digits_of, digit_byte, decimal, number_bytes, spaced}
use Rattle.text.specs.Line.{digits, natural, non_negative, negative, number, numbers_in, Words, unended, words, joined, cut, span, numbers, of_words, line_of}
use Rattle.text.specs.declared.Class.{Class}
use Rattle.text.specs.declared.Class.TheVariants.{Newline, Space, Minus, Digit, Step, Other}

-- Digits

pub tenth : (m : ℕ) → 10 ≤ m → (0 < m / 10) × (m / 10 < m)
tenth m h = let e = div-add-mod' m 10 in let l = mod-lt m {m = 10} (omega arith) in (omega arith, omega arith)

natural-digits : (turns m : ℕ) (ds : List ℕ) → 0 < m → m ≤ turns → natural (map Digit (decimals turns m ds)) ≡ digits m (map Digit ds)
unfolding decimals
natural-digits zero m ds p h = absurd (omega arith)
natural-digits (suc turns) m ds p h = by (ltb m 10) refl (λ a b. natural-digits turns (m / 10) (m % 10 ∷ ds) a b)
  where
    single : (m : ℕ) → 0 < m → natural (map Digit (m ∷ ds)) ≡ digits m (map Digit ds)
    single zero p = absurd (omega arith)
    single (suc m) p = refl

    by : (b : Bool) → ltb m 10 ≡ b → (0 < m / 10 → m / 10 ≤ turns → natural (map Digit (decimals turns (m / 10) (m % 10 ∷ ds))) ≡ digits (m / 10) (map Digit (m % 10 ∷ ds)))
        → natural (map Digit (cond b (m ∷ ds) (decimals turns (m / 10) (m % 10 ∷ ds)))) ≡ digits m (map Digit ds)
    by true e f = single m p
    by false e f =
        let t = tenth m (ltb-false m 10 e) in
        f t.0 (omega arith) ∙ ap (λ (n : ℕ). digits n (map Digit ds)) (div-add-mod' m 10)

-- every digit is below 10
abbrev Small : List ℕ → Type 0
Small ds = (d : ℕ) → d ∈ ds → d < 10

small-digits : (turns m : ℕ) (ds : List ℕ) → m ≤ turns → Small ds → Small (decimals turns m ds)
unfolding decimals
small-digits zero m ds h s = each-cons (omega arith) s
small-digits (suc turns) m ds h s =
    by (ltb m 10) refl (λ b. small-digits turns (m / 10) (m % 10 ∷ ds) b (each-cons (mod-lt m {m = 10} (omega arith)) s))
  where
    by : (b : Bool) → ltb m 10 ≡ b → (m / 10 ≤ turns → Small (decimals turns (m / 10) (m % 10 ∷ ds)))
        → Small (cond b (m ∷ ds) (decimals turns (m / 10) (m % 10 ∷ ds)))
    by true e f = each-cons (ltb-true m 10 e) s
    by false e f = f (let t = tenth m (ltb-false m 10 e) in omega arith)

digits-read : (m : ℕ) → natural (map Digit (digits_of m)) ≡ some m
unfolding decimals
digits-read zero = refl
digits-read (suc m) = natural-digits (suc m) (suc m) [] (omega arith) (omega arith)

digits-small : (m : ℕ) → Small (digits_of m)
unfolding decimals
digits-small zero = each-cons (omega arith) (λ d i. elim i [ ])
digits-small (suc m) = small-digits (suc m) (suc m) [] (omega arith) (λ d i. elim i [ ])

-- Bytes

class-digit : (d : ℕ) → d < 10 → class_of (digit_byte d) ≡ Digit d
class-digit d h =
    let e : 48 + d - 48 ≡ d = omega arith in
    rw (ne_eqb (48 + d) 10 (λ k. omega arith), ne_eqb (48 + d) 32 (λ k. omega arith), ne_eqb (48 + d) 45 (λ k. omega arith), le-leb 48 (48 + d) (omega arith), le-leb (48 + d) 57 (omega arith), e)

class-digits : (ds : List ℕ) → Small ds → map class_of (map digit_byte ds) ≡ map Digit ds
class-digits [] s = refl
class-digits (d ∷ ds) s = ap₂ (λ c w. c ∷ w) (class-digit d (s d (Memᴰ.head refl))) (class-digits ds (λ x i. s x (Memᴰ.tail i)))

-- what is written is a number "without leading zeros", and its value is m
pub decimal-read : (m : ℕ) → natural (map class_of (decimal m)) ≡ some m
unfolding decimal
decimal-read m = rw (class-digits (digits_of m) (digits-small m)) (digits-read m)

-- a signed number as classes
abbrev word_of : ℤ → List Class
word_of z = map class_of (number_bytes z)

positive-read : (ds : List ℕ) (m : ℕ) → natural (map Digit ds) ≡ some m → number (map Digit ds) ≡ some (pos m)
positive-read [] m e = absurd (none-ne-some m e)
positive-read (d ∷ ds) m e = ap non_negative e

number_read : (z : ℤ) → number (word_of z) ≡ some z
unfolding number_bytes decimal
number_read (pos m) = rw (class-digits (digits_of m) (digits-small m)) (positive-read (digits_of m) m (digits-read m))
number_read (negsuc m) = rw (class-digits (digits_of (suc m)) (digits-small (suc m))) (ap negative (digits-read (suc m)))

-- Words

-- a word of digits and minus signs
abbrev Inner : List Class → Type 0
Inner [] = Unit {0}
Inner (Minus ∷ w) = Inner w
Inner (Digit d ∷ w) = Inner w
Inner (Newline ∷ w) = ⊥
Inner (Space ∷ w) = ⊥
Inner (Step x ∷ w) = ⊥
Inner (Other ∷ w) = ⊥

inner-digits : (ds : List ℕ) → Inner (map Digit ds)
inner-digits [] = tt
inner-digits (d ∷ ds) = inner-digits ds

inner-number : (z : ℤ) → Inner (word_of z)
unfolding number_bytes decimal
inner-number (pos m) = rw (class-digits (digits_of m) (digits-small m)) (inner-digits (digits_of m))
inner-number (negsuc m) = rw (class-digits (digits_of (suc m)) (digits-small (suc m))) (inner-digits (digits_of (suc m)))

-- a word before the first of others
abbrev before : List Class → Words → Words
before w unended = unended
before w (words v vs) = words (w ++ v) vs

before-joined : (c : Class) (w : List Class) (o : Words) → joined c (before w o) ≡ before (c ∷ w) o
before-joined c w unended = refl
before-joined c w (words v vs) = refl

before-none : (o : Words) → o ≡ before [] o
before-none unended = refl
before-none (words v vs) = refl

cut-inner : (w : List Class) → Inner w → (t : List Class) → cut (w ++ t) ≡ before w (cut t)
cut-inner [] i t = before-none (cut t)
cut-inner (Minus ∷ w) i t = ap (joined Minus) (cut-inner w i t) ∙ before-joined Minus w (cut t)
cut-inner (Digit d ∷ w) i t = ap (joined (Digit d)) (cut-inner w i t) ∙ before-joined (Digit d) w (cut t)
cut-inner (Newline ∷ w) i t = absurd i
cut-inner (Space ∷ w) i t = absurd i
cut-inner (Step x ∷ w) i t = absurd i
cut-inner (Other ∷ w) i t = absurd i

-- Lines

-- the numbers after the first, each behind a space, and the newline
unfoldable pub rest : List ℤ → List ℕ
rest [] = 10 ∷ []
rest (z ∷ zs) = 32 ∷ (number_bytes z ++ rest zs)

-- a line of one number at least
unfoldable pub line_bytes : ℤ → List ℤ → List ℕ
line_bytes z zs = number_bytes z ++ rest zs

cut-first : (z : ℤ) (zs : List ℤ) (s : List ℕ) → cut (map class_of (line_bytes z zs ++ s)) ≡ before (word_of z) (cut (map class_of (rest zs ++ s)))
unfolding line_bytes
cut-first z zs s =
    rw (append_assoc (number_bytes z) (rest zs) s, map-append class_of (number_bytes z) (rest zs ++ s)) (cut-inner (word_of z) (inner-number z) (map class_of (rest zs ++ s)))

cut_line : (z : ℤ) (zs : List ℤ) (s : List ℕ) → cut (map class_of (line_bytes z zs ++ s)) ≡ words (word_of z) (map word_of zs)
unfolding line_bytes rest
cut_line z [] s = cut-first z [] s ∙ rw (append-nil (word_of z))
cut_line z (y ∷ zs) s = cut-first z (y ∷ zs) s ∙ rw (cut_line y zs s, append-nil (word_of z))

numbers-read : (zs : List ℤ) → numbers_in (map word_of zs) ≡ some zs
numbers-read [] = refl
numbers-read (z ∷ zs) = rw (number_read z, numbers-read zs)

first_read : (w : List Class) (ws : List (List Class)) (zs : List ℤ) → numbers_in (w ∷ ws) ≡ some zs → of_words (words w ws) ≡ numbers zs (span (w ∷ ws))
first_read [] ws zs e = absurd (none-ne-some zs e)
first_read (c ∷ w) ws zs e = rw e

span-line : (z : ℤ) (zs : List ℤ) → span (word_of z ∷ map word_of zs) ≡ length (line_bytes z zs)
unfolding line_bytes rest
span-line z [] = omega (arith, length-append (number_bytes z) (10 ∷ []), length-map (number_bytes z) class_of)
span-line z (y ∷ zs) =
    omega (arith, span-line y zs, length-append (number_bytes z) (32 ∷ (number_bytes y ++ rest zs)), length-map (number_bytes z) class_of)

-- a line that is written is read back
pub line_read : (z : ℤ) (zs : List ℤ) (s : List ℕ) → line_of (line_bytes z zs ++ s) ≡ numbers (z ∷ zs) (length (line_bytes z zs))
unfolding line_of
line_read z zs s = rw (cut_line z zs s, first_read (word_of z) (map word_of zs) (z ∷ zs) (numbers-read (z ∷ zs)), span-line z zs)

-- the first numbers of what follows a line's first one, each behind a space
pub rest-spaced : (zs ys : List ℤ) → rest (zs ++ ys) ≡ spaced zs ++ rest ys
unfolding rest spaced
rest-spaced [] ys = refl
rest-spaced (z ∷ zs) ys =
    ap (λ (l : List ℕ). 32 ∷ l) (ap (λ (l : List ℕ). number_bytes z ++ l) (rest-spaced zs ys) ∙ sym (append_assoc (number_bytes z) (spaced zs) (rest ys)))
