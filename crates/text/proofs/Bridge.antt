-- The scan of the loop reads what `line_of` says: one induction over the bytes.
-- Assumes nothing.
use mathlib.Core.Path.{◌≡◌, refl, sym, ◌∙◌, ap, subst}
use mathlib.Core.Bool.{Bool, true, false, not, ◌&&◌, ◌||◌, or_assoc, or-false}
use mathlib.Core.Option.{Option, none, some}
use mathlib.Core.List.{List, [], ◌∷◌, map}
use Prim.Native.Nat.{ℕ, zero, suc, ◌+◌, ◌*◌, ◌<◌, min}
use native.Mathlib.Nat.{zero-add}
use native.Mathlib.Omega.{arith}
use native.Mathlib.Numerals.{add-one}
use lib.Dec.{ltb, eqb, eqb-suc-zero}
use lib.IntN.{ℤ, pos, nat_abs}
use lib.ListN.{length, set}
use lib.Seq.{sets}
use borrow.Author.Tests.{ltb-true, ltb-false, lt-ltb, le-ltb, ne_eqb}
use Rattle.words.specs.Limits.{largest}
use Rattle.words.specs.Literals.{same}
use Rattle.text.specs.Bytes.{class_of}
use Rattle.text.specs.Line.{digits, natural, non_negative, negative, number, also, numbers_in, Words, unended, words, new_word, joined, cut, span, Line, broken, numbers, spanned, of_words, line_of, outside, any_outside, is_closed}
use Rattle.text.specs.Scanned.{capped, LineTold, LineBounds, LineScanned}
use Rattle.text.specs.Scan.{State, Start, Word, Sign, Zero, Digits, Action, Go, Put, Last, Fail, more_of, newline_of, space_of, action_of, value_of, unseen, Scanned, turn, scan}
use Rattle.text.specs.declared.Letter.{Letter}
use Rattle.text.specs.declared.Class.{Class}
use Rattle.text.specs.declared.Class.TheVariants.{Newline, Space, Minus, Digit, Step, Other}
use Rattle.text.specs.declared.Seen.{Seen}
use Rattle.std.specs.Prelude.{Option as Answer, Some, None}
use Rattle.text.specs.declared.LineNumbers.{LineNumbers}
use Rattle.text.proofs.Lines.{Bounds, bounds}

-- Words

-- how far a word is read, with its exact size: the state has it capped
data Place : Type 0 where
  fresh : Place
  signed : Place
  nought : Place
  sized : Bool → ℕ → Place

abbrev state_of : Place → State
state_of fresh = Word
state_of signed = Sign
state_of nought = Zero
state_of (sized neg m) = Digits neg (min m (suc largest))

abbrev with_sign : Bool → Option ℕ → Option ℤ
with_sign neg none = none
with_sign neg (some m) = some (value_of neg m)

-- the number that a word makes, of which w is left
abbrev rest : Place → List Class → Option ℤ
rest fresh w = number w
rest signed w = negative (natural w)
rest nought [] = some (pos 0)
rest nought (c ∷ w) = none
rest (sized neg m) w = with_sign neg (digits m w)

-- a byte inside a word, by what the scanner does
data Inside (p : Place) (c : Class) : Action → Type 0 where
  fails : ((w : List Class) → rest p (c ∷ w) ≡ none) → Inside p c Fail
  goes : (q : Place) → ((w : List Class) → rest p (c ∷ w) ≡ rest q w) → Inside p c (Go (state_of q))

with-plus : (o : Option ℕ) → non_negative o ≡ with_sign false o
with-plus none = refl
with-plus (some m) = refl

with-minus : (w : List Class) (m : ℕ) → 0 < m → negative (digits m w) ≡ with_sign true (digits m w)
with-minus [] zero h = absurd (omega arith)
with-minus [] (suc m) h = refl
with-minus (Digit d ∷ w) m h = with-minus w (m * 10 + d) (omega arith)
with-minus (Newline ∷ w) m h = refl
with-minus (Space ∷ w) m h = refl
with-minus (Minus ∷ w) m h = refl
with-minus (Step x ∷ w) m h = refl
with-minus (Other ∷ w) m h = refl

zero-fresh : (w : List Class) → rest fresh (Digit 0 ∷ w) ≡ rest nought w
zero-fresh [] = refl
zero-fresh (c ∷ w) = refl

zero-signed : (w : List Class) → rest signed (Digit 0 ∷ w) ≡ none
zero-signed [] = refl
zero-signed (c ∷ w) = refl

first-size : (d : ℕ) → more_of 0 d ≡ min d (suc largest)
first-size d = omega arith

more-size : (m d : ℕ) → more_of (min m (suc largest)) d ≡ min (m * 10 + d) (suc largest)
more-size m d = omega arith

inside-digit : (p : Place) (d : ℕ) → Inside p (Digit d) (action_of (state_of p) (Digit d))
inside-digit fresh zero = goes nought zero-fresh
inside-digit fresh (suc d) = rw (eqb-suc-zero d, first-size (suc d)) (goes (sized false (suc d)) (λ w. with-plus (digits (suc d) w)))
inside-digit signed zero = fails zero-signed
inside-digit signed (suc d) = rw (eqb-suc-zero d, first-size (suc d)) (goes (sized true (suc d)) (λ w. with-minus w (suc d) (omega arith)))
inside-digit nought d = fails (λ w. refl)
inside-digit (sized neg m) d = rw (more-size m d) (goes (sized neg (m * 10 + d)) (λ w. refl))

inside-minus : (p : Place) → Inside p Minus (action_of (state_of p) Minus)
inside-minus fresh = goes signed (λ w. refl)
inside-minus signed = fails (λ w. refl)
inside-minus nought = fails (λ w. refl)
inside-minus (sized neg m) = fails (λ w. refl)

inside-step : (p : Place) (x : Letter) → Inside p (Step x) Fail
inside-step fresh x = fails (λ w. refl)
inside-step signed x = fails (λ w. refl)
inside-step nought x = fails (λ w. refl)
inside-step (sized neg m) x = fails (λ w. refl)

inside-other : (p : Place) → Inside p Other Fail
inside-other fresh = fails (λ w. refl)
inside-other signed = fails (λ w. refl)
inside-other nought = fails (λ w. refl)
inside-other (sized neg m) = fails (λ w. refl)

-- a word's end, by what the scanner does at a newline and at a space
data End (p : Place) : Action → Action → Type 0 where
  fails : rest p [] ≡ none → End p Fail Fail
  ends : (z : ℤ) (neg : Bool) (m : ℕ) → rest p [] ≡ some z → value_of neg m ≡ capped z → ltb largest m ≡ outside z → eqb m 0 ≡ same z (pos 0) → End p (Last neg m) (Put neg m)

capped-value : (neg : Bool) (m : ℕ) → value_of neg (min m (suc largest)) ≡ capped (value_of neg m)
capped-value false m = refl
capped-value true zero = refl
capped-value true (suc m) = refl

size-value : (neg : Bool) (m : ℕ) → nat_abs (value_of neg m) ≡ m
size-value false m = refl
size-value true zero = refl
size-value true (suc m) = refl

outside-value : (neg : Bool) (m : ℕ) → ltb largest (min m (suc largest)) ≡ outside (value_of neg m)
outside-value neg m = by (ltb largest m) refl ∙ sym (ap (ltb largest) (size-value neg m))
  where
    by : (t : Bool) → ltb largest m ≡ t → ltb largest (min m (suc largest)) ≡ ltb largest m
    by true e = lt-ltb largest (min m (suc largest)) (omega (arith, ltb-true largest m e)) ∙ sym e
    by false e = le-ltb largest (min m (suc largest)) (omega (arith, ltb-false largest m e)) ∙ sym e

nought-value : (neg : Bool) (m : ℕ) → eqb (min m (suc largest)) 0 ≡ same (value_of neg m) (pos 0)
nought-value false zero = refl
nought-value false (suc m) = ne_eqb (min (suc m) (suc largest)) 0 (λ e. omega arith) ∙ sym (eqb-suc-zero m)
nought-value true zero = refl
nought-value true (suc m) = ne_eqb (min (suc m) (suc largest)) 0 (λ e. omega arith)

end : (p : Place) → End p (newline_of (state_of p)) (space_of (state_of p))
end fresh = fails refl
end signed = fails refl
end nought = ends (pos 0) false 0 refl refl refl refl
end (sized neg m) = ends (value_of neg m) neg (min m (suc largest)) refl (capped-value neg m) (outside-value neg m) (nought-value neg m)

-- Lines

-- the line from the place on
abbrev from : Place → Words → Line
from p unended = broken
from p (words w ws) = spanned (also (rest p w) (numbers_in ws)) (span (w ∷ ws))

abbrev longer : Line → Line
longer broken = broken
longer (numbers zs k) = numbers zs (1 + k)

abbrev preceded : ℤ → Line → Line
preceded z broken = broken
preceded z (numbers zs k) = numbers (z ∷ zs) (1 + k)

spanned-longer : (o : Option (List ℤ)) (j k : ℕ) → j ≡ 1 + k → spanned o j ≡ longer (spanned o k)
spanned-longer none j k e = refl
spanned-longer (some zs) j k e = ap (numbers zs) e

spanned-preceded : (z : ℤ) (o : Option (List ℤ)) (j k : ℕ) → j ≡ 1 + k → spanned (also (some z) o) j ≡ preceded z (spanned o k)
spanned-preceded z none j k e = refl
spanned-preceded z (some zs) j k e = ap (numbers (z ∷ zs)) e

from_goes : (p q : Place) (c : Class) (o : Words) → ((w : List Class) → rest p (c ∷ w) ≡ rest q w) → from p (joined c o) ≡ longer (from q o)
from_goes p q c unended e = refl
from_goes p q c (words w ws) e =
    rw (e w) (spanned-longer (also (rest q w) (numbers_in ws)) (span ((c ∷ w) ∷ ws)) (span (w ∷ ws)) (omega arith))

from-fails : (p : Place) (c : Class) (o : Words) → ((w : List Class) → rest p (c ∷ w) ≡ none) → from p (joined c o) ≡ broken
from-fails p c unended e = refl
from-fails p c (words w ws) e = rw (e w)

apart-ends : (p : Place) (z : ℤ) (o : Words) → rest p [] ≡ some z → from p (new_word o) ≡ preceded z (from fresh o)
apart-ends p z unended e = refl
apart-ends p z (words w ws) e =
    rw e (spanned-preceded z (numbers_in (w ∷ ws)) (span ([] ∷ w ∷ ws)) (span (w ∷ ws)) (omega arith))

apart-fails : (p : Place) (o : Words) → rest p [] ≡ none → from p (new_word o) ≡ broken
apart-fails p unended e = refl
apart-fails p (words w ws) e = rw e

-- what the scan finds, with n numbers in the row, what was seen of them, and the position, against what is left of the line:
-- a number at least
abbrev Agrees : Scanned → ℕ → Seen → List ℤ → ℕ → Line → Type 0
Agrees x n seen row i broken = x.line ≡ None
Agrees x n seen row i (numbers [] k) = ⊥
Agrees x n seen row i (numbers (z ∷ zs) k) =
    (x.line ≡ Some (record { count = n + length (z ∷ zs); next = i + k; outside = seen.outside || any_outside (z ∷ zs); closed = not seen.nought && is_closed (z ∷ zs) }))
    × (x.row ≡ sets row n (map capped (z ∷ zs)))

-- what is seen with the number z
abbrev seeing_z : Seen → ℤ → Seen
seeing_z seen z = record { outside = seen.outside || outside z; nought = seen.nought || same z (pos 0) }

not-or-and : (a b t : Bool) → not (a || b) && t ≡ not a && (not b && t)
not-or-and true b t = refl
not-or-and false b t = refl

module _ (x : Scanned) (n : ℕ) (seen : Seen) (row : List ℤ) (i : ℕ) where
  agrees-longer : (l : Line) → Agrees x n seen row (i + 1) l → Agrees x n seen row i (longer l)
  agrees-longer broken a = a
  agrees-longer (numbers [] k) a = a
  agrees-longer (numbers (z ∷ zs) k) a =
      let e : i + (1 + k) ≡ i + 1 + k = omega arith in
      (rw e a.0, a.1)

  agrees-preceded : (z : ℤ) (l : Line) → Agrees x (n + 1) (seeing_z seen z) (set row n (capped z)) (i + 1) l → Agrees x n seen row i (preceded z l)
  agrees-preceded z broken a = a
  agrees-preceded z (numbers [] k) a = absurd a
  agrees-preceded z (numbers (y ∷ zs) k) a =
      let e₁ : n + suc (suc (length zs)) ≡ n + 1 + suc (length zs) = omega arith in
      let e₂ : i + (1 + k) ≡ i + 1 + k = omega arith in
      (rw (e₁, e₂, ← or_assoc seen.outside (outside z) (any_outside (y ∷ zs)), ← not-or-and seen.nought (same z (pos 0)) (is_closed (y ∷ zs))) a.0, a.1 ∙ rw add-one)

-- one byte more, where f scans what is left, o, rightly
module _ (f : State → ℕ → Seen → List ℤ → ℕ → Scanned) (o : Words)
    (h : (p : Place) (n : ℕ) (seen : Seen) (row : List ℤ) (i : ℕ) → Agrees (f (state_of p) n seen row i) n seen row i (from p o))
    (n : ℕ) (seen : Seen) (row : List ℤ) (i : ℕ) (p : Place) where
  at-inside : (c : Class) {a : Action} → Inside p c a → Agrees (turn f a n seen row i) n seen row i (from p (joined c o))
  unfolding turn
  at-inside c (fails e) = rw (from-fails p c o e) refl
  at-inside c (goes q e) = rw (from_goes p q c o e) (agrees-longer _ n seen row i (from q o) (h q n seen row (i + 1)))

  at-space : {a b : Action} → End p a b → Agrees (turn f b n seen row i) n seen row i (from p (new_word o))
  unfolding turn
  at-space (fails e) = rw (apart-fails p o e) refl
  at-space (ends z neg m e v t k) =
      rw (apart-ends p z o e, v, t, k)
      (agrees-preceded _ n seen row i z (from fresh o) (h fresh (n + 1) (seeing_z seen z) (set row n (capped z)) (i + 1)))

  at-newline : {a b : Action} → End p a b → Agrees (turn f a n seen row i) n seen row i (from p (words [] []))
  unfolding turn
  at-newline (fails e) = rw e refl
  at-newline (ends z neg m e v t k) = rw (e, v, t, k, or-false (outside z)) (refl, refl)

scanned : (l : List Class) (p : Place) (n : ℕ) (seen : Seen) (row : List ℤ) (i : ℕ) → Agrees (scan l (state_of p) n seen row i) n seen row i (from p (cut l))
unfolding scan
scanned [] p n seen row i = refl
scanned (Newline ∷ l) p n seen row i = at-newline (scan l) (cut l) (scanned l) n seen row i p (end p)
scanned (Space ∷ l) p n seen row i = at-space (scan l) (cut l) (scanned l) n seen row i p (end p)
scanned (Minus ∷ l) p n seen row i = at-inside (scan l) (cut l) (scanned l) n seen row i p Minus (inside-minus p)
scanned (Digit d ∷ l) p n seen row i = at-inside (scan l) (cut l) (scanned l) n seen row i p (Digit d) (inside-digit p d)
scanned (Step x ∷ l) p n seen row i = at-inside (scan l) (cut l) (scanned l) n seen row i p (Step x) (inside-step p x)
scanned (Other ∷ l) p n seen row i = at-inside (scan l) (cut l) (scanned l) n seen row i p Other (inside-other p)

-- The first byte

apart-fresh : (o : Words) → from fresh (new_word o) ≡ of_words (new_word o)
apart-fresh unended = refl
apart-fresh (words w ws) = refl

joined-fresh : (c : Class) (o : Words) → from fresh (joined c o) ≡ of_words (joined c o)
joined-fresh c unended = refl
joined-fresh c (words w ws) = refl

agrees-told : (x : Scanned) (row : List ℤ) (l m : Line) → l ≡ m → Agrees x 0 unseen row 0 l → LineTold m row x.row x.line
agrees-told x row l broken e a = rw e at a
agrees-told x row l (numbers [] k) e a = absurd (rw e at a)
agrees-told x row l (numbers (z ∷ zs) k) e a = let b = rw e at a in (simp zero-add at b.0, b.1)

scan-told : (l : List Class) (row : List ℤ) → (let x = scan l Start 0 unseen row 0 in LineTold (of_words (cut l)) row x.row x.line)
unfolding scan turn
scan-told [] row = refl
scan-told (Newline ∷ l) row = (refl, refl)
scan-told (Space ∷ l) row = agrees-told _ row _ _ (apart-fresh (cut l)) (scanned (Space ∷ l) fresh 0 unseen row 0)
scan-told (Minus ∷ l) row = agrees-told _ row _ _ (joined-fresh Minus (cut l)) (scanned (Minus ∷ l) fresh 0 unseen row 0)
scan-told (Digit d ∷ l) row = agrees-told _ row _ _ (joined-fresh (Digit d) (cut l)) (scanned (Digit d ∷ l) fresh 0 unseen row 0)
scan-told (Step x ∷ l) row = agrees-told _ row _ _ (joined-fresh (Step x) (cut l)) (scanned (Step x ∷ l) fresh 0 unseen row 0)
scan-told (Other ∷ l) row = agrees-told _ row _ _ (joined-fresh Other (cut l)) (scanned (Other ∷ l) fresh 0 unseen row 0)

told-within : (l : Line) (n : ℕ) (row after : List ℤ) (r : Answer LineNumbers) → LineTold l row after r → Bounds n l → LineBounds n r
told-within broken n row after r t b = rw t tt
told-within (numbers zs k) n row after r t b = rw t.0 b

-- what the scan from the beginning ends with is what `read_line` is to say
pub reads : {s : List ℕ} {row after : List ℤ} {r : Answer LineNumbers} → length after ≡ length row
    → scan (map class_of s) Start 0 unseen row 0 ≡ record { line = r; row = after } → LineScanned s row after r
unfolding line_of
reads {s} {row} {after} {r} k e =
    let t : LineTold (line_of s) row after r = subst (λ (x : Scanned). LineTold (line_of s) row x.row x.line) e (scan-told (map class_of s) row) in
    record { told = t; kept = k; within = told-within (line_of s) (length s) row after r t (bounds s) }
