-- A number as it is written: "decimal digits, without leading zeros". `decimal-read` of proofs/Decimals.antt shows that
-- what is written here is read back as the number.
-- Assumes nothing.
use Rattle.std.specs.Prelude.{cond, List, [], ◌∷◌, ◌++◌, map, ℕ, zero, suc, ◌+◌, ◌/◌, ◌%◌, ltb, ℤ, pos, negsuc}

-- The decimal digits of m, before those given: m alone where it is below 10, otherwise those of m / 10 and then m % 10. As many
-- turns as m are enough.
unfoldable pub decimals : ℕ → ℕ → List ℕ → List ℕ
decimals zero m ds = m ∷ ds
decimals (suc turns) m ds = cond (ltb m 10) (m ∷ ds) (decimals turns (m / 10) (m % 10 ∷ ds))

-- the digits of a number
abbrev pub digits_of : ℕ → List ℕ
digits_of m = decimals m m []

-- the byte of a digit; 48 is `0`
abbrev pub digit_byte : ℕ → ℕ
digit_byte d = 48 + d

-- a number as bytes
unfoldable pub decimal : ℕ → List ℕ
decimal m = map digit_byte (digits_of m)

-- a signed number as bytes; 45 is the minus
unfoldable pub number_bytes : ℤ → List ℕ
number_bytes (pos m) = decimal m
number_bytes (negsuc m) = 45 ∷ decimal (suc m)

-- numbers as bytes, each after a space
unfoldable pub spaced : List ℤ → List ℕ
spaced [] = []
spaced (z ∷ zs) = 32 ∷ (number_bytes z ++ spaced zs)
