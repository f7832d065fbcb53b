-- A scanner byte by byte: a state, and what a byte does to it. The code reads a number at a time; what its functions say by this scanner
-- serves the proof of `read_line` only: no reader of that contract needs it.
-- Assumes nothing.
use Rattle.std.specs.Prelude.{ℕ, ◌+◌, ◌*◌, ◌<◌, ◌≤◌, min, Bool, true, false, cond, not, ◌&&◌, ◌||◌, List, [], ◌∷◌, map, eqb, ltb, ℤ, pos, neg_ℤ, length, drop, get_or, set, Option, Some, None}
use Rattle.words.specs.Limits.{largest, entries}
use Rattle.text.specs.declared.Class.{Class}
use Rattle.text.specs.declared.Class.TheVariants.{Newline, Space, Minus, Digit, Step, Other}
use Rattle.text.specs.Bytes.{class_of}
use Rattle.text.specs.declared.Number.{Number}
use Rattle.text.specs.declared.Seen.{Seen}
use Rattle.text.specs.declared.LineNumbers.{LineNumbers}

-- what the bytes of a line so far have led to; of digits, whether after a minus, and the size that they make
pub data State : Type 0 where
  Start : State
  Word : State
  Sign : State
  Zero : State
  Digits : Bool → ℕ → State

-- what the next byte does: a state, a number that a space or a newline ends (negative or not, and its size), an empty line, or no line of
-- numbers
pub data Action : Type 0 where
  Go : State → Action
  Put : Bool → ℕ → Action
  Last : Bool → ℕ → Action
  Empty : Action
  Fail : Action

-- one more digit, up to the cap
abbrev pub more_of : ℕ → ℕ → ℕ
more_of m d = min (m * 10 + d) entries

abbrev pub zero_of : Bool → Action
zero_of true = Fail
zero_of false = Go Zero

abbrev pub first_of : Bool → ℕ → Action
first_of neg d = cond (eqb d 0) (zero_of neg) (Go (Digits neg (more_of 0 d)))

abbrev pub digit_of : State → ℕ → Action
digit_of Start d = first_of false d
digit_of Word d = first_of false d
digit_of Sign d = first_of true d
digit_of Zero d = Fail
digit_of (Digits neg m) d = Go (Digits neg (more_of m d))

abbrev pub minus_of : State → Action
minus_of Start = Go Sign
minus_of Word = Go Sign
minus_of Sign = Fail
minus_of Zero = Fail
minus_of (Digits neg m) = Fail

abbrev pub space_of : State → Action
space_of Start = Fail
space_of Word = Fail
space_of Sign = Fail
space_of Zero = Put false 0
space_of (Digits neg m) = Put neg m

abbrev pub newline_of : State → Action
newline_of Start = Empty
newline_of Word = Fail
newline_of Sign = Fail
newline_of Zero = Last false 0
newline_of (Digits neg m) = Last neg m

abbrev pub action_of : State → Class → Action
action_of st Newline = newline_of st
action_of st Space = space_of st
action_of st Minus = minus_of st
action_of st (Digit d) = digit_of st d
action_of st (Step x) = Fail
action_of st Other = Fail

abbrev pub value_of : Bool → ℕ → ℤ
value_of true m = neg_ℤ (pos m)
value_of false m = pos m

-- what is seen with one number more, of size m
abbrev pub seeing : Seen → ℕ → Seen
seeing seen m = record { outside = seen.outside || ltb largest m; nought = seen.nought || eqb m 0 }

-- the line that ends with a number of size m
abbrev pub end_of : Seen → ℕ → ℕ → ℕ → LineNumbers
end_of seen m n i = record { count = n; next = i; outside = seen.outside || ltb largest m; closed = not seen.nought && eqb m 0 }

-- nothing was seen yet
abbrev pub unseen : Seen
unseen = record { outside = false; nought = false }

-- what is answered, and what the row holds
pub record Scanned : Type 0 where
  pub line : Option LineNumbers
  pub row : List ℤ

-- what an action does, with n numbers in the row so far, what was seen of them, and the position; f scans what is left
unfoldable pub turn : (State → ℕ → Seen → List ℤ → ℕ → Scanned) → Action → ℕ → Seen → List ℤ → ℕ → Scanned
turn f (Go st) n seen row i = f st n seen row (i + 1)
turn f (Put neg m) n seen row i = f Word (n + 1) (seeing seen m) (set row n (value_of neg m)) (i + 1)
turn f (Last neg m) n seen row i = record { line = Some (end_of seen m (n + 1) (i + 1)); row = set row n (value_of neg m) }
turn f Empty n seen row i = record { line = Some (record { count = 0; next = 1; outside = false; closed = false }); row = row }
turn f Fail n seen row i = record { line = None; row = row }

unfoldable pub scan : List Class → State → ℕ → Seen → List ℤ → ℕ → Scanned
scan [] st n seen row i = record { line = None; row = row }
scan (c ∷ s) st n seen row i = turn (scan s) (action_of st c) n seen row i

-- Numbers, as the code goes from one to the next

-- the class of the byte at a position; the text's end is like a byte of no number
abbrev pub class_from : List ℕ → ℕ → Class
class_from s i = cond (ltb i (length s)) (class_of (get_or s i 0)) Other

-- what is scanned from a position on
abbrev pub scan_from : List ℕ → State → ℕ → Seen → List ℤ → ℕ → Scanned
scan_from s st n seen row i = scan (map class_of (drop i s)) st n seen row i

-- what an action at a position leads to
abbrev pub acted : List ℕ → Action → ℕ → Seen → List ℤ → ℕ → Scanned
acted s a n seen row i = turn (scan (map class_of (drop (i + 1) s))) a n seen row i

-- what a byte does after the last digit of a number
abbrev pub ending : Bool → ℕ → Class → Action
ending neg m Newline = Last neg m
ending neg m Space = Put neg m
ending neg m Minus = Fail
ending neg m (Digit d) = Fail
ending neg m (Step x) = Fail
ending neg m Other = Fail

abbrev pub after_digits : List ℕ → Bool → ℕ → ℕ → Seen → List ℤ → ℕ → Scanned
after_digits s neg m n seen row i = acted s (ending neg m (class_from s i)) n seen row i

-- what a byte does where the first digit of a number is due
abbrev pub beginning : Bool → Class → Action
beginning neg Newline = Fail
beginning neg Space = Fail
beginning neg Minus = Fail
beginning neg (Digit d) = first_of neg d
beginning neg (Step x) = Fail
beginning neg Other = Fail

abbrev pub after_sign : List ℕ → Bool → ℕ → Seen → List ℤ → ℕ → Scanned
after_sign s neg n seen row i = acted s (beginning neg (class_from s i)) n seen row i

-- what a number leads to
abbrev pub after_number : List ℕ → Option Number → ℕ → Seen → List ℤ → Scanned
after_number s None n seen row = record { line = None; row = row }
after_number s (Some x) n seen row =
    cond x.last (record { line = Some (end_of seen x.size (n + 1) x.next); row = set row n (value_of x.negative x.size) })
    (scan_from s Word (n + 1) (seeing seen x.size) (set row n (value_of x.negative x.size)) x.next)

-- a number with its end takes a byte at least, within the text
abbrev pub NumberBounds : ℕ → ℕ → Option Number → Type 0
NumberBounds at end None = Unit {0}
NumberBounds at end (Some x) = (at < x.next) × (x.next ≤ end)
