-- Proofs trimmed line by line, from text to text; proofs/Examples.antt computes them. None is a starred example.
-- Assumes nothing.
use Rattle.std.specs.Prelude.{◌≡◌, List, [], ◌∷◌, ℕ}
use Prim.Native.String.{String}
use Rattle.text.specs.Strings.{lines}
use Rattle.aspif.specs.Rules.{InputRule}
use Rattle.drupe.specs.Texts.{text_of}
use Rattle.merging.specs.Examples.{rules, proof}
use Rattle.trimming.specs.Service.{trimmed_steps}

-- example 1's program
abbrev one : List InputRule
one = rules ("1 0 1 1 0 1 -1" ∷ [])

abbrev Trims : (size : ℕ) → (before after : List String) → Type 0
Trims size before after = text_of (trimmed_steps size one (proof before)) ≡ lines after

-- what is left of proofs of example 1's program
pub record TrimmedExamples : Type 0 where
  -- going on with the step before a removal, not with the last one again
  pub onward : Trims 99 ("b 2 -1 0" ∷ "c 2 1 0" ∷ "s 1 2 0" ∷ "a 1 0" ∷ "d 1 0" ∷ "a -2 0" ∷ "a 0" ∷ [])
      ("b 2 -1 0" ∷ "c 2 1 0" ∷ "s 1 2 0" ∷ "a -2 0" ∷ "a 0" ∷ [])
  -- three passes
  pub three : Trims 27 ("b 2 -1 0" ∷ "c 2 1 0" ∷ "s 1 2 0" ∷ "e 3 2 0" ∷ "a 1 0" ∷ "d 1 2 0" ∷ "a 0" ∷ [])
      ("b 2 -1 0" ∷ "c 2 1 0" ∷ "s 1 2 0" ∷ "a 1 0" ∷ "a 0" ∷ [])
  -- a deletion that makes room stays
  pub room : Trims 19 ("b 2 -1 0" ∷ "c 2 1 0" ∷ "s 1 2 0" ∷ "a 1 0" ∷ "d 1 2 0" ∷ "a 0" ∷ [])
      ("b 2 -1 0" ∷ "c 2 1 0" ∷ "s 1 2 0" ∷ "a 1 0" ∷ "d 1 2 0" ∷ "a 0" ∷ [])
