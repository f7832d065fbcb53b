-- Numbers as bytes, "all little-endian", for any number k of bytes: 16 bits are k = 2, 32 bits k = 4.
-- Assumes nothing.
use Rattle.std.specs.Prelude.{Bool, true, false, List, [], ◌∷◌, map, ℕ, zero, suc, ◌+◌, ◌-◌, ◌*◌, ◌/◌, ◌%◌, leb, ℤ, pos, negsuc, take, drop}
use Rattle.words.specs.Lists.{concat}

-- the k low bytes of n, lowest first
unfoldable pub little : ℕ → ℕ → List ℕ
little zero n = []
little (suc k) n = n % 256 ∷ little k (n / 256)

-- the number that bytes make, lowest first
unfoldable pub value : List ℕ → ℕ
value [] = 0
value (b ∷ bs) = b + value bs * 256

-- Two's complement: the bytes of `negsuc n`, which is -1 - n, are those of n, each taken from 255.

abbrev pub flip : ℕ → ℕ
flip b = 255 - b

-- a byte, or the byte taken from 255 where the number is negative
abbrev pub flip_if : Bool → ℕ → ℕ
flip_if true b = flip b
flip_if false b = b

unfoldable pub signed_bytes : ℕ → ℤ → List ℕ
signed_bytes k (pos n) = map (flip_if false) (little k n)
signed_bytes k (negsuc n) = map (flip_if true) (little k n)

-- the highest byte, which stands last; 0 where there is none
unfoldable pub highest : List ℕ → ℕ
highest [] = 0
highest (b ∷ []) = b
highest (b ∷ c ∷ bs) = highest (c ∷ bs)

-- "signed": negative where the highest bit is set
abbrev pub is_negative : List ℕ → Bool
is_negative bs = leb 128 (highest bs)

abbrev pub with_sign : Bool → ℕ → ℤ
with_sign true n = negsuc n
with_sign false n = pos n

unfoldable pub signed_value : List ℕ → ℤ
signed_value bs = with_sign (is_negative bs) (value (map (flip_if (is_negative bs)) bs))

-- Numbers one after another

-- the bytes of numbers, k for each
unfoldable pub bytes_of : ℕ → List ℤ → List ℕ
bytes_of k zs = concat (map (signed_bytes k) zs)

-- the n numbers of k bytes each that some bytes begin with
unfoldable pub numbers_from : ℕ → ℕ → List ℕ → List ℤ
numbers_from k zero bs = []
numbers_from k (suc n) bs = signed_value (take k bs) ∷ numbers_from k n (drop k bs)
