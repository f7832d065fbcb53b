-- Laws of `line_of` for its callers. Assumes nothing.
use mathlib.Core.Path.{◌≡◌, refl, ap, subst}
use mathlib.Core.Bool.{Bool, false}
use mathlib.Core.Option.{Option, none, some}
use mathlib.Core.List.{List, [], ◌∷◌, map}
use Prim.Native.Nat.{ℕ, suc, ◌*◌, ◌≤◌, ◌<◌, min}
use native.Mathlib.Omega.{arith}
use lib.IntN.{ℤ, pos, negsuc, neg_ℤ}
use lib.ListN.{length, length-map}
use lib.Seq.{sets}
use borrow.Author.Tests.{ltb-false}
use Rattle.words.specs.Limits.{largest}
use Rattle.words.proofs.Lists.{or-false-left, or-false-right}
use Rattle.text.specs.Bytes.{class_of}
use Rattle.text.specs.Line.{number, also, numbers_in, Words, unended, words, new_word, joined, cut, span, Line, broken, numbers, spanned, of_words, line_of, outside, any_outside, is_closed}
use Rattle.text.specs.Scanned.{capped, LineTold, LineScanned}
use Rattle.text.specs.declared.Class.{Class}
use Rattle.text.specs.declared.Class.TheVariants.{Newline, Space, Minus, Digit, Step, Other}
use Rattle.std.specs.Prelude.{Option as Answer, Some}
use Rattle.text.specs.declared.LineNumbers.{LineNumbers}

-- Sizes

capped-inside : (z : ℤ) → outside z ≡ false → capped z ≡ z
capped-inside (pos m) e = ap pos (omega (arith, ltb-false largest m e))
capped-inside (negsuc m) e =
    let h : min (suc m) (suc largest) ≡ suc m = omega (arith, ltb-false largest (suc m) e) in
    ap (λ (n : ℕ). neg_ℤ (pos n)) h

-- where no number is outside, the row keeps the numbers themselves
pub capped-all : (zs : List ℤ) → any_outside zs ≡ false → map capped zs ≡ zs
capped-all [] e = refl
capped-all (z ∷ zs) e =
    let h = capped-inside z (or-false-left (outside z) (any_outside zs) e) in
    let t = capped-all zs (or-false-right (outside z) (any_outside zs) e) in
    cc

-- Bounds

-- the bytes of the words are bytes of the text
abbrev Spans : ℕ → Words → Type 0
Spans n unended = Unit {0}
Spans n (words w ws) = span (w ∷ ws) ≤ n

spans_apart : (n : ℕ) (o : Words) → Spans n o → Spans (suc n) (new_word o)
spans_apart n unended h = tt
spans_apart n (words w ws) h = omega arith

spans-joined : (n : ℕ) (c : Class) (o : Words) → Spans n o → Spans (suc n) (joined c o)
spans-joined n c unended h = tt
spans-joined n c (words w ws) h = omega arith

spans : (l : List Class) → Spans (length l) (cut l)
spans [] = tt
spans (Newline ∷ l) = omega arith
spans (Space ∷ l) = spans_apart (length l) (cut l) (spans l)
spans (Minus ∷ l) = spans-joined (length l) Minus (cut l) (spans l)
spans (Digit d ∷ l) = spans-joined (length l) (Digit d) (cut l) (spans l)
spans (Step x ∷ l) = spans-joined (length l) (Step x) (cut l) (spans l)
spans (Other ∷ l) = spans-joined (length l) Other (cut l) (spans l)

-- a number takes a byte at least, and the byte that ends it
abbrev Half : Option (List ℤ) → ℕ → Type 0
Half none k = Unit {0}
Half (some zs) k = length zs * 2 ≤ k

half-also : (w : List Class) (ws : List (List Class)) (o : Option (List ℤ)) → Half o (span ws) → Half (also (number w) o) (span (w ∷ ws))
half-also [] ws o h = tt
half-also (c ∷ w) ws o h = by (number (c ∷ w)) o h
  where
    by : (z : Option ℤ) (o : Option (List ℤ)) → Half o (span ws) → Half (also z o) (span ((c ∷ w) ∷ ws))
    by none o h = tt
    by (some z) none h = tt
    by (some z) (some zs) h = omega arith

half : (ws : List (List Class)) → Half (numbers_in ws) (span ws)
half [] = omega arith
half (w ∷ ws) = half-also w ws (numbers_in ws) (half ws)

abbrev pub Bounds : ℕ → Line → Type 0
Bounds n broken = Unit {0}
Bounds n (numbers zs k) = (0 < k) × (k ≤ n) × (length zs < k)

bounds-spanned : (n k : ℕ) (o : Option (List ℤ)) → 0 < k → k ≤ n → Half o k → Bounds n (spanned o k)
bounds-spanned n k none p l h = tt
bounds-spanned n k (some zs) p l h = (p, l, omega arith)

bounds-words : (n : ℕ) (o : Words) → Spans n o → Bounds n (of_words o)
bounds-words n unended h = tt
bounds-words n (words [] []) h = (omega arith, h, omega arith)
bounds-words n (words [] (w ∷ ws)) h = tt
bounds-words n (words (c ∷ w) ws) h =
    bounds-spanned n (span ((c ∷ w) ∷ ws)) (numbers_in ((c ∷ w) ∷ ws)) (omega arith) h (half ((c ∷ w) ∷ ws))

pub bounds : (s : List ℕ) → Bounds (length s) (line_of s)
unfolding line_of
bounds s = rw (← length-map s class_of) (bounds-words (length (map class_of s)) (cut (map class_of s)) (spans (map class_of s)))

-- a line takes a byte at least, within the text, and more bytes than numbers
pub bounds_of : (s : List ℕ) (zs : List ℤ) (n : ℕ) → line_of s ≡ numbers zs n → (0 < n) × (n ≤ length s) × (length zs < n)
bounds_of s zs n e = subst (Bounds (length s)) e (bounds s)

-- What `read_line` tells

-- of a line of numbers
pub record Numbered (s : List ℕ) (before after : List ℤ) (count next : ℕ) (out closed : Bool) : Type 0 where
  pub list : List ℤ
  pub is : line_of s ≡ numbers list next
  pub long : count ≡ length list
  pub large : out ≡ any_outside list
  pub shut : closed ≡ is_closed list
  pub row : after ≡ sets before 0 (map capped list)

pub numbered : {s : List ℕ} {before after : List ℤ} {r : Answer LineNumbers} {x : LineNumbers} → LineScanned s before after r → r ≡ Some x
    → Numbered s before after x.count x.next x.outside x.closed
numbered {s} {before} {after} {r} {x} h e = by (line_of s) refl h.told
  where
    by : (l : Line) → line_of s ≡ l → LineTold l before after r → Numbered s before after x.count x.next x.outside x.closed
    by broken q t = absurd (let z : ◌≡◌ {A = ℕ} 0 1 = cc in omega arith)
    by (numbers zs n) q t =
        let k = t.0 in
        record { list = zs; is = cc; long = cc; large = cc; shut = cc; row = t.1 }
