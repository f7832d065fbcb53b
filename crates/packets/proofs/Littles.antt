-- Laws of numbers as bytes, for any number of bytes: each number is read back from its bytes, and bytes from their number.
-- Assumes nothing.
use mathlib.Core.Path.{◌≡◌, refl, sym, ◌∙◌, ap, ap₂}
use mathlib.Core.Bool.{Bool, true, false}
use mathlib.Core.List.Memᴰ
use mathlib.Core.List.{List, [], ◌∷◌, ◌++◌, map, append_assoc}
use Prim.Native.Nat.{ℕ, zero, suc, ◌+◌, ◌-◌, ◌*◌, ◌/◌, ◌%◌, ◌^◌, ◌<◌, ◌≤◌}
use native.Mathlib.Nat.{div-add-mod', mod-lt, mul-le-mul_left, mul-suc, pow-suc}
use native.Mathlib.Omega.{arith}
use borrow.Author.Tests.{le-leb, lt-leb, leb-true, leb-false}
use lib.Dec.{leb}
use lib.IntN.{ℤ, pos, negsuc, ◌-ℤ◌}
use lib.Signed.{mag}
use lib.ListN.{length, take, drop, get_or, length-drop, length-append, length-map, take-append-drop}
use lib.Seq.{drop-cons, drop-drop, length-take-le, take_at, drop_at, take-add}
use mir.Syntax.{w64}
use mir.Val.{SFits, to_z, of_z}
use mir.Facts.{to_z-of_z, to_z_pos}
use Rattle.words.specs.Lists.{◌∈◌}
use Rattle.packets.specs.Bytes.{little, value, flip, flip_if, signed_bytes, highest, is_negative, with_sign, signed_value, bytes_of, numbers_from}
use Rattle.packets.specs.Claims.{Bytes}

-- Bytes

pub bytes-tail : {b : ℕ} {bs : List ℕ} → Bytes (b ∷ bs) → Bytes bs
bytes-tail f c m = f c (Memᴰ.tail m)

pub length-little : (k n : ℕ) → length (little k n) ≡ k
unfolding little
length-little zero n = refl
length-little (suc k) n = ap suc (length-little k (n / 256))

-- a number below 256 ^ k is the value of its k low bytes
pub value-little : (k n : ℕ) → n < 256 ^ k → value (little k n) ≡ n
unfolding little value
value-little zero n h = omega arith
value-little (suc k) n h =
    let p = rw (pow-suc 256 k) at h in
    let d = div-add-mod' n 256 in
    let e = value-little k (n / 256) (omega arith) in
    omega arith

low_byte : (b v : ℕ) → b < 256 → ((b + v * 256) % 256 ≡ b) × ((b + v * 256) / 256 ≡ v)
low_byte b v h = (omega arith, omega arith)

-- bytes are those of their value
pub little-value : (bs : List ℕ) → Bytes bs → little (length bs) (value bs) ≡ bs
unfolding little value
little-value [] f = refl
little-value (b ∷ bs) f =
    let l = low_byte b (value bs) (f b (Memᴰ.head refl)) in
    rw (l.0, l.1) (ap (λ (t : List ℕ). b ∷ t) (little-value bs (bytes-tail f)))

-- Two's complement

pub plain-bytes : (bs : List ℕ) → map (flip_if false) bs ≡ bs
plain-bytes [] = refl
plain-bytes (b ∷ bs) = ap (λ (t : List ℕ). b ∷ t) (plain-bytes bs)

flip_twice : (bs : List ℕ) → Bytes bs → map (flip_if true) (map (flip_if true) bs) ≡ bs
flip_twice [] f = refl
flip_twice (b ∷ bs) f =
    let h = f b (Memᴰ.head refl) in
    let e : 255 - (255 - b) ≡ b = omega arith in
    rw e (ap (λ (t : List ℕ). b ∷ t) (flip_twice bs (bytes-tail f)))

bytes-flip : (bs : List ℕ) → Bytes (map (flip_if true) bs)
bytes-flip [] c x = elim x [ ]
bytes-flip (b ∷ bs) c (Memᴰ.head p) = rw p (omega arith)
bytes-flip (b ∷ bs) c (Memᴰ.tail m) = bytes-flip bs c m

pub bytes-little : (k n : ℕ) → Bytes (little k n)
unfolding little
bytes-little zero n c x = elim x [ ]
bytes-little (suc k) n c (Memᴰ.head p) = rw p (mod-lt n {m = 256} (omega arith))
bytes-little (suc k) n c (Memᴰ.tail m) = bytes-little k (n / 256) c m

high-low : (k n : ℕ) → n < 128 * 256 ^ k → highest (little (suc k) n) < 128
unfolding little highest
high-low zero n h = omega arith
high-low (suc k) n h =
    let p = rw (pow-suc 256 k) at h in
    let d = div-add-mod' n 256 in
    high-low k (n / 256) (omega arith)

high-flip : (b : ℕ) (bs : List ℕ) → highest (map (flip_if true) (b ∷ bs)) ≡ flip (highest (b ∷ bs))
unfolding highest
high-flip b [] = refl
high-flip b (c ∷ bs) = high-flip c bs

flip_high : (bs : List ℕ) → 0 < length bs → highest bs < 128 → 128 ≤ highest (map (flip_if true) bs)
flip_high [] h l = absurd (omega arith)
flip_high (b ∷ bs) h l = rw (high-flip b bs) (omega arith)

with-plus : (bs : List ℕ) (n : ℕ) → highest bs < 128 → value bs ≡ n → signed_value bs ≡ pos n
unfolding signed_value
with-plus bs n l e = rw (lt-leb 128 (highest bs) l, plain-bytes bs, e)

with-minus : (bs : List ℕ) (n : ℕ) → 128 ≤ highest bs → value (map (flip_if true) bs) ≡ n → signed_value bs ≡ negsuc n
unfolding signed_value
with-minus bs n l e = rw (le-leb 128 (highest bs) l, e)

pow-half : (k n : ℕ) → n < 128 * 256 ^ k → n < 256 ^ suc k
pow-half k n h = rw (pow-suc 256 k) (omega arith)

-- a number in the range of suc k bytes is read back from them
pub signed-little : (k : ℕ) (z : ℤ) → mag z < 128 * 256 ^ k → signed_value (signed_bytes (suc k) z) ≡ z
unfolding signed_bytes
signed-little k (pos n) h = rw (plain-bytes (little (suc k) n)) (with-plus (little (suc k) n) n (high-low k n h) (value-little (suc k) n (pow-half k n h)))
signed-little k (negsuc n) h =
    with-minus (map (flip_if true) (little (suc k) n)) n (flip_high (little (suc k) n) (omega (arith, length-little (suc k) n)) (high-low k n h))
    (ap value (flip_twice (little (suc k) n) (bytes-little (suc k) n)) ∙ value-little (suc k) n (pow-half k n h))

-- bytes are those of the number that they make
pub signed-value : (bs : List ℕ) → Bytes bs → signed_bytes (length bs) (signed_value bs) ≡ bs
unfolding signed_bytes signed_value
signed-value bs f = by (is_negative bs)
  where
    by : (t : Bool) → signed_bytes (length bs) (with_sign t (value (map (flip_if t) bs))) ≡ bs
    by true =
        let m = map (flip_if true) bs in
        ap (map (flip_if true)) (ap (λ (k : ℕ). little k (value m)) (sym (length-map bs (flip_if true))) ∙ little-value m (bytes-flip bs)) ∙ flip_twice bs f
    by false = rw (plain-bytes bs) (plain-bytes (little (length bs) (value bs)) ∙ little-value bs f)

pub length-signed : (k : ℕ) (z : ℤ) → length (signed_bytes k z) ≡ k
unfolding signed_bytes
length-signed k (pos n) = length-map (little k n) (flip_if false) ∙ length-little k n
length-signed k (negsuc n) = length-map (little k n) (flip_if true) ∙ length-little k n

-- Numbers one after another

pub bytes-part : (n : ℕ) (bs : List ℕ) → Bytes bs → Bytes (take n bs) × Bytes (drop n bs)
bytes-part n bs f =
    let e = take-append-drop n bs in
    (λ b m. f b (rw e at (Memᴰ.append_left (drop n bs) m)), λ b m. f b (rw e at (Memᴰ.append_right (take n bs) m)))

pub length-bytes : (k : ℕ) (zs : List ℤ) → length (bytes_of k zs) ≡ k * length zs
unfolding bytes_of
length-bytes k [] = omega arith
length-bytes k (z ∷ zs) =
    length-append (signed_bytes k z) (bytes_of k zs) ∙ ap₂ (λ (a b : ℕ). a + b) (length-signed k z) (length-bytes k zs) ∙ omega arith

-- every number is in the range of suc k bytes
abbrev pub InRange : ℕ → List ℤ → Type 0
InRange k zs = (z : ℤ) → z ∈ zs → mag z < 128 * 256 ^ k

pub numbers-back : (k : ℕ) (zs : List ℤ) (r : List ℕ) → InRange k zs → numbers_from (suc k) (length zs) (bytes_of (suc k) zs ++ r) ≡ zs
unfolding bytes_of numbers_from
numbers-back k [] r f = refl
numbers-back k (z ∷ zs) r f =
    let b = signed_bytes (suc k) z in
    let t = bytes_of (suc k) zs ++ r in
    let e : (b ++ bytes_of (suc k) zs) ++ r ≡ b ++ t = append_assoc b (bytes_of (suc k) zs) r in
    rw (e, take_at b t (suc k) (length-signed (suc k) z), drop_at b t (suc k) (length-signed (suc k) z), signed-little k z (f z (Memᴰ.head refl)))
    (ap (λ (l : List ℤ). z ∷ l) (numbers-back k zs r (λ y m. f y (Memᴰ.tail m))))

pub length-numbers : (k n : ℕ) (bs : List ℕ) → length (numbers_from k n bs) ≡ n
unfolding numbers_from
length-numbers k zero bs = refl
length-numbers k (suc n) bs = ap suc (length-numbers k n (drop k bs))

-- bytes that are read as numbers are the numbers' bytes
pub numbers-whole : (k n : ℕ) (bs : List ℕ) → k * n ≤ length bs → Bytes bs → bytes_of k (numbers_from k n bs) ≡ take (k * n) bs
unfolding bytes_of numbers_from
numbers-whole k zero bs h f = let e : k * 0 ≡ 0 = omega arith in rw e
numbers-whole k (suc n) bs h f =
    let e : k * suc n ≡ k + k * n = omega (arith, mul-suc k n) in
    let l : length (take k bs) ≡ k = length-take-le k bs (omega arith) in
    let p = bytes-part k bs f in
    let a = signed-value (take k bs) p.0 in
    let c = numbers-whole k n (drop k bs) (omega (arith, length-drop k bs)) p.1 in
    ap₂ (λ (x y : List ℕ). x ++ y) (ap (λ (j : ℕ). signed_bytes j (signed_value (take k bs))) (sym l) ∙ a) c ∙ rw e (sym (take-add k (k * n) bs))

-- What the loops that read bytes cite

pub bytes-all : (bs : List ℕ) → ((i : ℕ) → get_or bs i 0 < 256) → Bytes bs
bytes-all [] f c x = elim x [ ]
bytes-all (b ∷ bs) f c (Memᴰ.head p) = rw p (f 0)
bytes-all (b ∷ bs) f c (Memᴰ.tail m) = bytes-all bs (λ i. f (suc i)) c m

pub bytes-flips : (t : Bool) (bs : List ℕ) → Bytes bs → Bytes (map (flip_if t) bs)
bytes-flips true bs f = bytes-flip bs
bytes-flips false bs f = rw (plain-bytes bs) f

pub value-small : (k : ℕ) (bs : List ℕ) → length bs ≤ k → Bytes bs → value bs < 256 ^ k
unfolding value
value-small zero [] h f = omega arith
value-small (suc k) [] h f = let z = value-small k [] (omega arith) (λ b m. elim m [ ]) in rw (pow-suc 256 k) (omega arith)
value-small zero (b ∷ bs) h f = absurd (omega arith)
value-small (suc k) (b ∷ bs) h f =
    let v = value-small k bs (omega arith) (bytes-tail f) in
    let l = f b (Memᴰ.head refl) in
    rw (pow-suc 256 k) (omega arith)

-- where the highest bit is not set
pub value_low : (k : ℕ) (bs : List ℕ) → length bs ≤ suc k → highest bs < 128 → Bytes bs → value bs < 128 * 256 ^ k
unfolding value highest
value_low k [] h l f = let z = value-small k [] (omega arith) f in omega arith
value_low zero (b ∷ []) h l f = omega arith
value_low (suc k) (b ∷ []) h l f = let z = value-small k [] (omega arith) (λ b m. elim m [ ]) in rw (pow-suc 256 k) (omega arith)
value_low zero (b ∷ c ∷ bs) h l f = absurd (omega arith)
value_low (suc k) (b ∷ c ∷ bs) h l f =
    let v = value_low k (c ∷ bs) (omega arith) l (bytes-tail f) in
    let g = f b (Memᴰ.head refl) in
    rw (pow-suc 256 k) (omega arith)

-- one byte more, from the highest down
pub value_on : (f : ℕ → ℕ) (bs : List ℕ) (i : ℕ) → i < length bs → value (map f (drop i bs)) ≡ f (get_or bs i 0) + value (map f (drop (suc i) bs)) * 256
unfolding value
value_on f bs i h = rw (drop-cons bs i 0 h)

pub high-last : (bs : List ℕ) → 0 < length bs → highest bs ≡ get_or bs (length bs - 1) 0
unfolding highest
high-last [] h = absurd (omega arith)
high-last (b ∷ []) h = refl
high-last (b ∷ c ∷ bs) h = let e : suc (suc (length bs)) - 1 ≡ suc (suc (length bs) - 1) = omega arith in rw e (high-last (c ∷ bs) (omega arith))

flip_low : (bs : List ℕ) → 128 ≤ highest bs → highest (map (flip_if true) bs) < 128
unfolding highest
flip_low [] h = absurd (omega arith)
flip_low (b ∷ bs) h = rw (high-flip b bs) (omega arith)

-- the value of bytes that are read with their sign is in the range of 32 bits
pub sign-bits : (bs : List ℕ) → 0 < length bs → length bs ≤ 4 → Bytes bs → value (map (flip_if (is_negative bs)) bs) < 2147483648
sign-bits bs z h f = by (is_negative bs) refl
  where
    by : (t : Bool) → is_negative bs ≡ t → value (map (flip_if t) bs) < 2147483648
    by true e = value_low 3 (map (flip_if true) bs) (rw (length-map bs (flip_if true)) h) (flip_low bs (leb-true 128 (highest bs) e)) (bytes-flip bs)
    by false e = rw (plain-bytes bs) (value_low 3 bs h (leb-false 128 (highest bs) e) f)

pub number_at : (k n : ℕ) (bs : List ℕ) (i : ℕ) → i < n → get_or (numbers_from k n bs) i (pos 0) ≡ signed_value (take k (drop (k * i) bs))
unfolding numbers_from
number_at k zero bs i h = absurd (omega arith)
number_at k (suc n) bs zero h = let e : k * 0 ≡ 0 = omega arith in rw e
number_at k (suc n) bs (suc i) h =
    let e : k * suc i ≡ k + k * i = omega (arith, mul-suc k i) in
    rw (e, ← drop-drop (k * i) k bs) (number_at k n (drop k bs) i (omega arith))

-- the first of them alone
pub numbers-first : (k m n : ℕ) (bs : List ℕ) → m ≤ n → numbers_from k m bs ≡ take m (numbers_from k n bs)
unfolding numbers_from
numbers-first k zero n bs h = refl
numbers-first k (suc m) zero bs h = absurd (omega arith)
numbers-first k (suc m) (suc n) bs h = ap (λ (l : List ℤ). signed_value (take k bs) ∷ l) (numbers-first k m n (drop k bs) (omega arith))

-- those after i of them
pub numbers-later : (k i n : ℕ) (bs : List ℕ) → i ≤ n → numbers_from k (n - i) (drop (k * i) bs) ≡ drop i (numbers_from k n bs)
unfolding numbers_from
numbers-later k zero n bs h =
    let e : k * 0 ≡ 0 = omega arith in
    let z : n - 0 ≡ n = omega arith in
    rw (e, z)
numbers-later k (suc i) zero bs h = absurd (omega arith)
numbers-later k (suc i) (suc n) bs h =
    let e : k * suc i ≡ k + k * i = omega (arith, mul-suc k i) in
    let z : suc n - suc i ≡ n - i = omega arith in
    rw (e, z, ← drop-drop (k * i) k bs) (numbers-later k i n (drop k bs) (omega arith))

-- the sign is that of the last byte's highest bit
pub signed-as : (bs : List ℕ) (t : Bool) (n : ℕ) → 0 < length bs → leb 128 (get_or bs (length bs - 1) 0) ≡ t
    → n ≡ value (map (flip_if (leb 128 (get_or bs (length bs - 1) 0))) bs) → signed_value bs ≡ with_sign t n
unfolding signed_value
signed-as bs t n h e q = rw (high-last bs h, ← q, e)

pub signed-bits : (bs : List ℕ) (n : ℕ) → 0 < length bs → length bs ≤ 4 → ((i : ℕ) → get_or bs i 0 < 256)
    → n ≡ value (map (flip_if (leb 128 (get_or bs (length bs - 1) 0))) bs) → n < 2147483648
signed-bits bs n h l f q = let s = sign-bits bs h l (bytes-all bs f) in rw q (rw (high-last bs h) at s)

-- the machine's -1 - n
module _ (n : ℕ) (h : n < 2147483648) where
  less_one : negsuc 0 -ℤ pos n ≡ negsuc n
  less_one = by n
    where
      by : (m : ℕ) → negsuc 0 -ℤ pos m ≡ negsuc m
      by zero = refl
      by (suc m) = ap negsuc (omega arith)

  pub low_bits : to_z w64 n ≡ pos n
  low_bits = to_z_pos w64 (omega arith)

  pub minus-fits : SFits w64 (negsuc 0 -ℤ to_z w64 n)
  minus-fits = rw (low_bits, less_one) (record { sfits = omega arith })

  pub minus-word : to_z w64 (of_z w64 (negsuc 0 -ℤ to_z w64 n)) ≡ negsuc n
  minus-word = to_z-of_z minus-fits ∙ rw (low_bits, less_one)

-- number i of n ends within the bytes
pub room_at : (k n i m : ℕ) → i < n → k * n ≤ m → k * i + k ≤ m
room_at k n i m h l = omega (arith, mul-le-mul_left {m = suc i} {n = n} k h, mul-suc k i)

-- a part `&s[at..at + k]` is the k bytes from there on
pub part-is : (k at : ℕ) (bs : List ℕ) → take (at + k - at) (drop at bs) ≡ take k (drop at bs)
part-is k at bs = let e : at + k - at ≡ k = omega arith in rw e
