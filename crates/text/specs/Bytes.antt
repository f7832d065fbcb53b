-- What a byte is in the two texts: document 01, 'Program text' and 'The proof's seven letters'.
-- Assumes nothing.
use Rattle.std.specs.Prelude.{ℕ, ◌-◌, cond, ◌&&◌, eqb, leb}
use Rattle.text.specs.declared.Letter.{Letter}
use Rattle.text.specs.declared.Letter.TheVariants.{Addition, Body, Completion, Deletion, Extension, Loop, Support}
use Rattle.text.specs.declared.Class.{Class}
use Rattle.text.specs.declared.Class.TheVariants.{Newline, Space, Minus, Digit, Step, Other}

-- "the proof's seven letters", each as its byte: a, b, c, d, e, l, s
abbrev pub byte_of : Letter → ℕ
byte_of Addition = 97
byte_of Body = 98
byte_of Completion = 99
byte_of Deletion = 100
byte_of Extension = 101
byte_of Loop = 108
byte_of Support = 115

-- a byte that is no newline, space, minus or digit: a step letter or other
abbrev pub letter_or : ℕ → Class
letter_or b =
    cond (eqb b (byte_of Addition)) (Step Addition)
    (cond (eqb b (byte_of Body)) (Step Body)
    (cond (eqb b (byte_of Completion)) (Step Completion)
    (cond (eqb b (byte_of Deletion)) (Step Deletion)
    (cond (eqb b (byte_of Extension)) (Step Extension)
    (cond (eqb b (byte_of Loop)) (Step Loop)
    (cond (eqb b (byte_of Support)) (Step Support) Other))))))

-- 10 ends a line, 32 stands between numbers, 45 is the minus, 48 to 57 are the digits 0 to 9
abbrev pub class_of : ℕ → Class
class_of b =
    cond (eqb b 10) Newline
    (cond (eqb b 32) Space (cond (eqb b 45) Minus (cond (leb 48 b && leb b 57) (Digit (b - 48)) (letter_or b))))
