-- Numbers and lines, as document 01, 'Program text', has them.
-- Assumes nothing.
use Rattle.std.specs.Prelude.{Bool, false, not, ◌&&◌, ◌||◌, List, [], ◌∷◌, map, ℕ, zero, suc, ◌+◌, ◌*◌, ltb, ℤ, pos, negsuc, length}
use Rattle.std.proofs.Math.Option.{Option, none, some}
use Rattle.words.specs.Limits.{largest}
use Rattle.words.specs.Literals.{variable, same}
use Rattle.text.specs.Bytes.{class_of}
use Rattle.text.specs.declared.Class.{Class}
use Rattle.text.specs.declared.Class.TheVariants.{Newline, Space, Minus, Digit, Step, Other}

-- Numbers

-- the number that m and the decimal digits after it make
abbrev pub digits : ℕ → List Class → Option ℕ
digits m [] = some m
digits m (Digit d ∷ w) = digits (m * 10 + d) w
digits m (Newline ∷ w) = none
digits m (Space ∷ w) = none
digits m (Minus ∷ w) = none
digits m (Step x ∷ w) = none
digits m (Other ∷ w) = none

-- "decimal digits, without leading zeros": at least one digit, and only 0 itself begins with 0
abbrev pub natural : List Class → Option ℕ
natural [] = none
natural (Digit zero ∷ []) = some 0
natural (Digit zero ∷ c ∷ w) = none
natural (Digit (suc d) ∷ w) = digits (suc d) w
natural (Newline ∷ w) = none
natural (Space ∷ w) = none
natural (Minus ∷ w) = none
natural (Step x ∷ w) = none
natural (Other ∷ w) = none

abbrev pub non_negative : Option ℕ → Option ℤ
non_negative none = none
non_negative (some m) = some (pos m)

-- "`-0` is no number"
abbrev pub negative : Option ℕ → Option ℤ
negative none = none
negative (some zero) = none
negative (some (suc m)) = some (negsuc m)

-- "A number is an optional minus and decimal digits"
abbrev pub number : List Class → Option ℤ
number [] = none
number (Minus ∷ w) = negative (natural w)
number (Newline ∷ w) = none
number (Space ∷ w) = none
number (Digit d ∷ w) = non_negative (natural (Digit d ∷ w))
number (Step x ∷ w) = none
number (Other ∷ w) = none

abbrev pub also : Option ℤ → Option (List ℤ) → Option (List ℤ)
also none o = none
also (some z) none = none
also (some z) (some zs) = some (z ∷ zs)

-- every word is a number
abbrev pub numbers_in : List (List Class) → Option (List ℤ)
numbers_in [] = some []
numbers_in (w ∷ ws) = also (number w) (numbers_in ws)

-- Lines

-- The words of the line that a text begins with: the first, and those after it. A newline ends the last word, and one
-- space each other, so that a space at an end of the line makes an empty word, which is no number.
pub data Words : Type 0 where
  unended : Words
  words : List Class → List (List Class) → Words

abbrev pub new_word : Words → Words
new_word unended = unended
new_word (words w ws) = words [] (w ∷ ws)

abbrev pub joined : Class → Words → Words
joined c unended = unended
joined c (words w ws) = words (c ∷ w) ws

-- "Lines end in a newline byte", "Numbers in a line stand one space apart"
abbrev pub cut : List Class → Words
cut [] = unended
cut (Newline ∷ s) = words [] []
cut (Space ∷ s) = new_word (cut s)
cut (Minus ∷ s) = joined Minus (cut s)
cut (Digit d ∷ s) = joined (Digit d) (cut s)
cut (Step x ∷ s) = joined (Step x) (cut s)
cut (Other ∷ s) = joined Other (cut s)

-- how many bytes words take, each with the byte that ends it
abbrev pub span : List (List Class) → ℕ
span [] = 0
span (w ∷ ws) = length w + 1 + span ws

-- what a text begins with: a line's numbers with the bytes that it takes, its newline included;
-- or no line, an unended one, or one that is not of well-formed numbers
pub data Line : Type 0 where
  broken : Line
  numbers : List ℤ → ℕ → Line

abbrev pub spanned : Option (List ℤ) → ℕ → Line
spanned none n = broken
spanned (some zs) n = numbers zs n

-- an empty line holds no number
abbrev pub of_words : Words → Line
of_words unended = broken
of_words (words [] []) = numbers [] 1
of_words (words [] (w ∷ ws)) = spanned (numbers_in ([] ∷ w ∷ ws)) (span ([] ∷ w ∷ ws))
of_words (words (c ∷ w) ws) = spanned (numbers_in ((c ∷ w) ∷ ws)) (span ((c ∷ w) ∷ ws))

-- the line that a text of bytes begins with
unfoldable pub line_of : List ℕ → Line
line_of s = of_words (cut (map class_of s))

-- Sizes

-- "Are all from -4,095 to 4,095?", which is 8,191 since Change 6, is answered no of z
abbrev pub outside : ℤ → Bool
outside z = ltb largest (variable z)

abbrev pub any_outside : List ℤ → Bool
any_outside [] = false
any_outside (z ∷ zs) = outside z || any_outside zs

-- "nonzero numbers, a closing `0`": the last number is 0 and no other is
abbrev pub is_closed : List ℤ → Bool
is_closed [] = false
is_closed (z ∷ []) = same z (pos 0)
is_closed (z ∷ y ∷ zs) = not (same z (pos 0)) && is_closed (y ∷ zs)
