-- What the proofs of `text::writing` cite, and of whatever calls it: bytes put one after another, a number's digits from the first
-- on, and how many there are.
-- Assumes nothing.
use mathlib.Core.Path.{◌≡◌, refl, sym, ◌∙◌, ap}
use mathlib.Core.Bool.{Bool, true, false, cond}
use mathlib.Core.List.{List, [], ◌∷◌, ◌++◌, map, append-nil, append_assoc, map-append}
use Prim.Native.Nat.{ℕ, zero, suc, ◌+◌, ◌/◌, ◌%◌, ◌^◌, ◌<◌, ◌≤◌}
use native.Mathlib.Nat.{div-add-mod', pow-suc}
use native.Mathlib.Numerals.{add-one}
use native.Mathlib.Omega.{arith}
use borrow.Author.Tests.{ltb-true, ltb-false, lt-ltb, le-ltb}
use lib.Dec.{ltb}
use lib.IntN.{ℤ, pos, negsuc}
use lib.ListN.{length, set, take, drop, get_or, length-append}
use lib.Seq.{sets, sets-eq, take-suc, length-take-le}
use mir.Syntax.{w32}
use mir.Val.{SFits}
use Rattle.words.specs.Literals.{variable}
use Rattle.words.proofs.Laws.{sets-append}
use Rattle.text.specs.Decimals.{decimals, digits_of, digit_byte, decimal, number_bytes, spaced}
use Rattle.text.specs.Writing.{Put, sign_bytes}
use Rattle.text.proofs.Decimals.{tenth}

-- one byte more
pub sets_more : (xs l : List ℕ) (at i : ℕ) → i < length xs → set (sets l at (take i xs)) (at + i) (get_or xs i 0) ≡ sets l at (take (i + 1) xs)
sets_more xs l at i h =
    let e : length (take i xs) ≡ i = length-take-le i xs (omega arith) in
    rw (add-one, take-suc xs i 0 h, sets-append (take i xs) (get_or xs i 0 ∷ []) l at, e)

-- bytes put after others
pub put_on : {xs ys before between after : List ℕ} {at from next : ℕ}
    → Put xs before between at from → Put ys between after from next → Put (xs ++ ys) before after at next
put_on {xs} {ys} {before} {at = at} p q = record {
  stands = q.stands ∙ rw (p.stands, p.ends) (sym (sets-append xs ys before at));
  ends = omega (arith, p.ends, q.ends, length-append xs ys);
}

-- bytes put at the front of a buffer that holds them
pub front-put : (vs before after : List ℕ) {next : ℕ} → Put vs before after 0 next → length vs ≤ length before → after ≡ vs ++ drop (length vs) before
front-put vs before after p h =
    let n : 0 + length vs ≡ length vs = omega arith in
    p.stands ∙ (sets-eq vs before 0 (omega (arith, h)) ∙ ap (λ (k : ℕ). vs ++ drop k before) n)

-- Digits

-- the turns do not matter where there are enough, and what is given stands behind
digits-before : (turns others m : ℕ) (ds : List ℕ) → m ≤ turns → m ≤ others → decimals turns m ds ≡ decimals others m [] ++ ds
unfolding decimals
digits-before zero zero m ds h k = refl
digits-before zero (suc others) m ds h k = rw (lt-ltb m 10 (omega arith))
digits-before (suc turns) zero m ds h k = rw (lt-ltb m 10 (omega arith))
digits-before (suc turns) (suc others) m ds h k = by (ltb m 10) refl (λ t es. digits-before t others (m / 10) es)
  where
    by : (b : Bool) → ltb m 10 ≡ b
        → ((t : ℕ) (es : List ℕ) → m / 10 ≤ t → m / 10 ≤ others → decimals t (m / 10) es ≡ decimals others (m / 10) [] ++ es)
        → cond b (m ∷ ds) (decimals turns (m / 10) (m % 10 ∷ ds)) ≡ cond b (m ∷ []) (decimals others (m / 10) (m % 10 ∷ [])) ++ ds
    by true e f = refl
    by false e f =
        let t = (tenth m (ltb-false m 10 e)).1 in
        f turns (m % 10 ∷ ds) (omega arith) (omega arith)
        ∙ sym (ap (λ (l : List ℕ). l ++ ds) (f others (m % 10 ∷ []) (omega arith) (omega arith)) ∙ append_assoc (decimals others (m / 10) []) (m % 10 ∷ []) ds)

pub decimal-one : (n : ℕ) → n < 10 → decimal n ≡ digit_byte n ∷ []
unfolding decimal decimals
decimal-one zero h = refl
decimal-one (suc n) h = rw (lt-ltb (suc n) 10 h)

pub decimal-more : (n : ℕ) → 10 ≤ n → decimal n ≡ decimal (n / 10) ++ (digit_byte (n % 10) ∷ [])
unfolding decimal decimals
decimal-more n h = ap (map digit_byte) (more n h) ∙ map-append digit_byte (digits_of (n / 10)) (n % 10 ∷ [])
  where
    more : (n : ℕ) → 10 ≤ n → digits_of n ≡ digits_of (n / 10) ++ (n % 10 ∷ [])
    more zero h = absurd (omega arith)
    more (suc n) h =
        rw (le-ltb (suc n) 10 h) (digits-before n (suc n / 10) (suc n / 10) (suc n % 10 ∷ []) (let t = (tenth (suc n) h).1 in omega arith) (omega arith))

-- a number below 10 ^ k has k digits at most, if k is not 0
short : (k n : ℕ) → n < 10 ^ suc k → length (decimal n) ≤ suc k
short zero n h = rw (decimal-one n h) (omega arith)
short (suc k) n h = by (ltb n 10) refl (short k (n / 10))
  where
    by : (b : Bool) → ltb n 10 ≡ b → (n / 10 < 10 ^ suc k → length (decimal (n / 10)) ≤ suc k) → length (decimal n) ≤ suc (suc k)
    by true e f = rw (decimal-one n (ltb-true n 10 e)) (omega arith)
    by false e f =
        let p = rw (pow-suc 10 (suc k)) at h in
        let d = div-add-mod' n 10 in
        rw (decimal-more n (ltb-false n 10 e)) (omega (arith, f (omega arith), length-append (decimal (n / 10)) (digit_byte (n % 10) ∷ [])))

pub decimal-short : (n : ℕ) → n < 2 ^ 64 → length (decimal n) ≤ 20
decimal-short n h = short 19 n (omega arith)

-- Numbers

pub signed-bytes : (z : ℤ) → number_bytes z ≡ sign_bytes z ++ decimal (variable z)
unfolding number_bytes
signed-bytes (pos m) = refl
signed-bytes (negsuc m) = refl

pub sign-short : (z : ℤ) → length (sign_bytes z) ≤ 1
sign-short (pos m) = omega arith
sign-short (negsuc m) = omega arith

-- the digits of a word of 32 bits
pub size-short : (z : ℤ) → SFits w32 z → length (decimal (variable z)) ≤ 20
size-short (pos m) f = decimal-short m (omega (arith, f.sfits))
size-short (negsuc m) f = decimal-short (suc m) (omega (arith, f.sfits))

-- one byte is put
pub put_one : (b : ℕ) {before after : List ℕ} {at : ℕ} → after ≡ set before at b → Put (b ∷ []) before after at (at + 1)
put_one b e = record { stands = e; ends = omega arith }

-- nothing is put
pub put-none : (before : List ℕ) (at : ℕ) → Put [] before before at at
put-none before at = record { stands = refl; ends = omega arith }

pub spaced-append : (xs ys : List ℤ) → spaced (xs ++ ys) ≡ spaced xs ++ spaced ys
unfolding spaced
spaced-append [] ys = refl
spaced-append (x ∷ xs) ys =
    ap (λ (l : List ℕ). 32 ∷ l) (ap (λ (l : List ℕ). number_bytes x ++ l) (spaced-append xs ys) ∙ sym (append_assoc (number_bytes x) (spaced xs) (spaced ys)))

-- one number more
pub spaced-more : (zs : List ℤ) (i : ℕ) → i < length zs → spaced (take (i + 1) zs) ≡ spaced (take i zs) ++ (32 ∷ number_bytes (get_or zs i (pos 0)))
unfolding spaced
spaced-more zs i h =
    rw (add-one, take-suc zs i (pos 0) h)
    (spaced-append (take i zs) (get_or zs i (pos 0) ∷ []) ∙ ap (λ (l : List ℕ). spaced (take i zs) ++ (32 ∷ l)) (append-nil (number_bytes (get_or zs i (pos 0)))))
