-- What the private functions of a pass leave, over texts. No reader of a public contract needs it.
-- Assumes nothing.
use Rattle.std.specs.Prelude.{◌≡◌, Bool, true, false, cond, List, [], ◌∷◌, ◌++◌, ℕ, ◌-◌, length, take, drop}
use Rattle.text.specs.declared.Class.{Class}
use Rattle.text.specs.declared.Class.TheVariants.{Newline, Space, Minus, Digit, Other}
use Rattle.aspif.specs.Rules.{InputRule}
use Rattle.drupe.specs.Texts.{Step, steps, text_of, steps_of}
use Rattle.runs.specs.Course.{is_accepted}

-- the steps ts stand in the text's first n bytes
abbrev pub Reads : (text : List ℕ) → (n : ℕ) → List Step → Type 0
Reads text n ts = steps_of (take n text) ≡ steps ts

-- a byte that ends a line, by its class
abbrev pub is_newline : Class → Bool
is_newline Newline = true
is_newline Space = false
is_newline Minus = false
is_newline (Digit d) = false
is_newline (Class.Step x) = false
is_newline Other = false

-- the text's first n bytes end with the line of a step that begins at a
abbrev pub LastLine : (text : List ℕ) → (n a : ℕ) → Type 0
LastLine text n a = (front : List Step) (t : Step) → take n text ≡ text_of (front ++ (t ∷ [])) → a ≡ length (text_of front)

-- the text's first n bytes without those from a to e
abbrev pub without : (text : List ℕ) → (a e n : ℕ) → List ℕ
without text a e n = take a text ++ take (n - e) (drop e text)

-- a trial: they stay unless the text is accepted without them
abbrev pub tried_text : (size : ℕ) → List InputRule → (text : List ℕ) → (a e n : ℕ) → List ℕ
tried_text size ws text a e n = cond (is_accepted size ws (without text a e n)) (without text a e n) (take n text)
