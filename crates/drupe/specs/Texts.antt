-- The steps of a proof text, and the text of steps: document 01, 'The proof's seven letters' and questions 21 to 25; and what is
-- claimed of the two. proofs/Texts.antt proves the claims.
-- Assumes nothing.
use Rattle.std.specs.Prelude.{◌≡◌, ◌↔◌, ◌⊎◌, false, cond, List, [], ◌∷◌, ◌++◌, ℕ, zero, suc, ◌+◌, ◌<◌, ◌≤◌, ltb, ℤ, pos, length}
use Rattle.std.specs.Prelude.{None}
use Rattle.words.specs.Limits.{longest}
use Rattle.words.specs.Lists.{◌∈◌}
use Rattle.words.specs.Literals.{has}
use Rattle.text.specs.Bytes.{byte_of}
use Rattle.text.specs.Decimals.{spaced}
use Rattle.text.specs.declared.Letter.{Letter}
use Rattle.drupe.specs.Lines.{line_refusal, end, line, line_at}
use Rattle.drupe.specs.Lines as Lines
use Rattle.drupe.specs.declared.ProofFault.TheVariants.{TooLong, Malformed}
use Rattle.drupe.specs.declared.ProofFault.{ProofFault}

-- a step: a line's letter and its numbers as written, without the closing 0
pub record Step : Type 0 where
  pub letter : Letter
  pub numbers : List ℤ

-- The text of steps

-- "the letter, a space, .. nonzero numbers, a closing `0`, newline": 32 is the space, 48 the `0`, 10 the newline
unfoldable pub step_text : Step → List ℕ
step_text t = byte_of t.letter ∷ (spaced t.numbers ++ (32 ∷ 48 ∷ 10 ∷ []))

-- the lines one after another
unfoldable pub text_of : List Step → List ℕ
text_of [] = []
text_of (t ∷ ts) = step_text t ++ text_of ts

-- The steps of a text

-- what a proof text comes to under questions 21 to 25: its steps; or the steps before the first line that is refused, with the
-- number of the question and the step at fault
pub data StepsRead : Type 0 where
  steps : List Step → StepsRead
  refused : (before : List Step) (fault : ProofFault) (step : ℕ) → StepsRead

-- a step before others
abbrev pub after : Step → StepsRead → StepsRead
after t (steps ts) = steps (t ∷ ts)
after t (refused ts k n) = refused (t ∷ ts) k n

-- The steps from a position on, after n of them. Each line takes a byte at least, so one turn more than there are bytes is enough.
unfoldable pub steps_at : List ℕ → (turns at done : ℕ) → StepsRead
steps_at text zero at n = refused [] Malformed (n + 1)
steps_at text (suc turns) at n =
    elim (line_at text at) [
      | end ↦ steps []
      | Lines.refused k ↦ refused [] k (n + 1)
      | line x zs next ↦ after (record { letter = x; numbers = zs }) (steps_at text turns next (n + 1))
    ]

-- Question 21 with so many bytes as the most, then the steps. The whole text is at fault, so the step is 0.
unfoldable pub steps_within : (limit : ℕ) → List ℕ → StepsRead
steps_within limit text = cond (ltb limit (length text)) (refused [] TooLong 0) (steps_at text (suc (length text)) 0 0)

-- "At most 65,535 bytes? 21."
abbrev pub steps_of : List ℕ → StepsRead
steps_of text = steps_within longest text

-- Claims, over every limit

-- a step passes questions 22 to 25
abbrev pub LinePasses : Step → Type 0
LinePasses t = (line_refusal t.letter t.numbers ≡ None) × (has (pos 0) t.numbers ≡ false)

-- one spelling: a proof text that passes 21 to 25 is the text of its steps
abbrev pub Spelled : Type 0
Spelled = (limit : ℕ) (text : List ℕ) (ts : List Step) → steps_within limit text ≡ steps ts → text ≡ text_of ts

-- steps that pass 22 to 25 are read back from their text, where it is short enough
abbrev pub ReadBack : Type 0
ReadBack =
    (limit : ℕ) (ts : List Step) → ((t : Step) → t ∈ ts → LinePasses t) → length (text_of ts) ≤ limit
    → steps_within limit (text_of ts) ≡ steps ts

-- both, with what a text that is read passes: no turns and no positions are left
abbrev pub StepsExact : Type 0
StepsExact =
    (limit : ℕ) (text : List ℕ) (ts : List Step)
    → (steps_within limit text ≡ steps ts) ↔ ((text ≡ text_of ts) × (length text ≤ limit) × ((t : Step) → t ∈ ts → LinePasses t))

-- the text goes on after the text of steps that pass with a line that is refused with k
abbrev pub Stops : List ℕ → List Step → ProofFault → Type 0
Stops text before k =
    ((t : Step) → t ∈ before → LinePasses t)
    × ((left : List ℕ) × ((text ≡ text_of before ++ left) × (line_at text (length (text_of before)) ≡ Lines.refused k)))

-- a text that is refused is either too long, or the text of steps that pass, with a line after them of which the question is
-- answered no
abbrev pub RefusedExact : Type 0
RefusedExact =
    (limit : ℕ) (text : List ℕ) (before : List Step) (k : ProofFault) (n : ℕ)
    → (steps_within limit text ≡ refused before k n)
    ↔ (((limit < length text) × ((before ≡ []) × ((k ≡ TooLong) × (n ≡ 0))))
    ⊎ ((length text ≤ limit) × ((n ≡ length before + 1) × Stops text before k)))

-- a text that is not too long for either of two limits has the same steps under both
abbrev pub SameWithin : Type 0
SameWithin =
    (text : List ℕ) (limit other : ℕ) → length text ≤ limit → length text ≤ other → steps_within limit text ≡ steps_within other text
