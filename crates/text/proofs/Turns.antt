-- What the functions that read a number share: the scanner's turns by the class of a byte.
-- Assumes nothing.
use mathlib.Core.Path.{◌≡◌, refl, sym, ◌∙◌, ap, subst}
use mathlib.Core.Bool.{Bool, true, false, cond}
use mathlib.Core.List.{List}
use Prim.Native.Nat.{ℕ, ◌+◌, ◌<◌, ◌≤◌}
use native.Mathlib.Numerals.{add-one}
use lib.Dec.{eqb, ltb, leb}
use lib.IntN.{ℤ}
use lib.ListN.{length, get_or, drop_of_length-le}
use lib.Seq.{drop-cons}
use borrow.Author.Tests.{ltb-true, ltb-false, lt-ltb, le-ltb}
use Rattle.text.specs.Bytes.{class_of}
use Rattle.text.specs.Classes.{class_at}
use Rattle.text.specs.Scan.{State, Sign, Zero, Digits, Action, Go, more_of, action_of, scan, turn, class_from, scan_from, acted, ending, beginning, after_digits, after_sign}
use Rattle.text.specs.declared.Letter.{Letter}
use Rattle.text.specs.declared.Letter.TheVariants.{Addition, Body, Completion, Deletion, Extension, Loop, Support}
use Rattle.text.specs.declared.Class.{Class}
use Rattle.text.specs.declared.Class.TheVariants.{Newline, Space, Minus, Digit, Step, Other}
use Rattle.text.specs.declared.Seen.{Seen}

-- Classes by their numbers

agree : {B : Type 0} (f g : Class → B) (t : Bool) {a b : Class} → (t ≡ true → f a ≡ g a) → f b ≡ g b → f (cond t a b) ≡ g (cond t a b)
agree f g true p q = p refl
agree f g false p q = q

-- two functions of a class agree at a number's class, where they agree at every class that the number may have
pub each : {B : Type 0} (f g : Class → B) (x : ℕ) → (leb x 9 ≡ true → f (Digit x) ≡ g (Digit x)) → (eqb x 10 ≡ true → f Newline ≡ g Newline)
    → (eqb x 11 ≡ true → f Space ≡ g Space) → (eqb x 12 ≡ true → f Minus ≡ g Minus) → ((y : Letter) → f (Step y) ≡ g (Step y)) → f Other ≡ g Other
    → f (class_at x) ≡ g (class_at x)
each f g x d n s m l o =
    agree f g (leb x 9) d
    (agree f g (eqb x 10) n
    (agree f g (eqb x 11) s
    (agree f g (eqb x 12) m
    (agree f g (eqb x 13) (λ e. l Addition)
    (agree f g (eqb x 14) (λ e. l Body)
    (agree f g (eqb x 15) (λ e. l Completion)
    (agree f g (eqb x 16) (λ e. l Deletion)
    (agree f g (eqb x 17) (λ e. l Extension)
    (agree f g (eqb x 18) (λ e. l Loop)
    (agree f g (eqb x 19) (λ e. l Support) o))))))))))

-- Scanning

-- one turn of the scan, at any position
pub one : (s : List ℕ) (st : State) (n : ℕ) (seen : Seen) (row : List ℤ) (i : ℕ)
    → scan_from s st n seen row i ≡ acted s (action_of st (class_from s i)) n seen row i
unfolding scan turn
one s st n seen row i = by (ltb i (length s)) refl
  where
    by : (t : Bool) → ltb i (length s) ≡ t → scan_from s st n seen row i ≡ acted s (action_of st (cond t (class_of (get_or s i 0)) Other)) n seen row i
    by true e = rw (add-one, drop-cons s i 0 (ltb-true i (length s) e))
    by false e = rw (drop_of_length-le s (ltb-false i (length s) e))

pub class-in : (s : List ℕ) (i : ℕ) → i < length s → class_from s i ≡ class_of (get_or s i 0)
class-in s i h = rw (lt-ltb i (length s) h)

pub class-out : (s : List ℕ) (i : ℕ) → length s ≤ i → class_from s i ≡ Other
class-out s i h = rw (le-ltb i (length s) h)

-- what is done at a position
module _ (s : List ℕ) (i : ℕ) (n : ℕ) (seen : Seen) (row : List ℤ) where
  pub acts : (f g : Class → Action) {c : Class} → class_from s i ≡ c → f c ≡ g c → acted s (f (class_from s i)) n seen row i ≡ acted s (g (class_from s i)) n seen row i
  acts f g k e = ap (λ (a : Action). acted s a n seen row i) (subst (λ (c : Class). f c ≡ g c) (sym k) e)

  -- a digit goes on, and any other byte ends the digits
  pub digit-on : (neg : Bool) (m : ℕ) {d : ℕ} → class_from s i ≡ Digit d → scan_from s (Digits neg m) n seen row i ≡ scan_from s (Digits neg (more_of m d)) n seen row (i + 1)
  unfolding turn
  digit-on neg m {d} k = one s (Digits neg m) n seen row i ∙ acts (action_of (Digits neg m)) (λ c. Go (Digits neg (more_of m d))) k refl

  pub digits-end : (neg : Bool) (m : ℕ) → ((d : ℕ) → class_from s i ≡ Digit d → ⊥) → scan_from s (Digits neg m) n seen row i ≡ after_digits s neg m n seen row i
  digits-end neg m f = one s (Digits neg m) n seen row i ∙ ap (λ (a : Action). acted s a n seen row i) (by (class_from s i) f)
    where
      by : (c : Class) → ((d : ℕ) → c ≡ Digit d → ⊥) → action_of (Digits neg m) c ≡ ending neg m c
      by Newline f = refl
      by Space f = refl
      by Minus f = refl
      by (Digit d) f = absurd (f d refl)
      by (Step x) f = refl
      by Other f = refl

-- past the text's end, at any positions
pub digits-out : (s : List ℕ) (i j : ℕ) (n : ℕ) (seen : Seen) (row : List ℤ) (neg : Bool) (m : ℕ) → length s ≤ i → length s ≤ j
    → scan_from s (Digits neg m) n seen row i ≡ after_digits s neg m n seen row j
unfolding scan turn
digits-out s i j n seen row neg m h k = rw (drop_of_length-le s h, class-out s j k)

-- after a 0, and after a minus
zero-acts : (c : Class) → action_of Zero c ≡ ending false 0 c
zero-acts Newline = refl
zero-acts Space = refl
zero-acts Minus = refl
zero-acts (Digit d) = refl
zero-acts (Step x) = refl
zero-acts Other = refl

sign-acts : (c : Class) → action_of Sign c ≡ beginning true c
sign-acts Newline = refl
sign-acts Space = refl
sign-acts Minus = refl
sign-acts (Digit d) = refl
sign-acts (Step x) = refl
sign-acts Other = refl

module _ (s : List ℕ) (n : ℕ) (seen : Seen) (row : List ℤ) (i : ℕ) where
  pub zero-ends : scan_from s Zero n seen row i ≡ after_digits s false 0 n seen row i
  zero-ends = one s Zero n seen row i ∙ ap (λ (a : Action). acted s a n seen row i) (zero-acts (class_from s i))

  pub sign-begins : scan_from s Sign n seen row i ≡ after_sign s true n seen row i
  sign-begins = one s Sign n seen row i ∙ ap (λ (a : Action). acted s a n seen row i) (sign-acts (class_from s i))
