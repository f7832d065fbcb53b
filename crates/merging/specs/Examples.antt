-- Merges worked out line by line, from texts to text; proofs/Examples.antt computes them. None is a starred example.
-- Assumes nothing.
use Rattle.std.specs.Prelude.{◌≡◌, cond, List, [], ◌∷◌, ◌++◌, ℕ, pos, neg_ℤ, length}
use Rattle.std.proofs.Math.Option.{Option, none, some}
use Prim.Native.String.{String}
use Rattle.text.specs.Strings.{lines}
use Rattle.aspif.specs.Rules.{InputRule, expand, atoms}
use Rattle.aspif.specs.Reading.{refused, program, read_text}
use Rattle.drupe.specs.Texts.{Step, steps, text_of, steps_of}
use Rattle.drupe.specs.Texts as Texts
use Rattle.derivation.specs.States.{start}
use Rattle.derivation.specs.Steps.{next, empty_live}
use Rattle.derivation.specs.Steps as Steps
use Rattle.merging.specs.Claims.{demanding_as_written, merged_as_written}

-- the rules of a program text, from its rule lines; [] where it is refused, which no example is
abbrev pub rules : List String → List InputRule
rules ls = elim (read_text 1000 (lines ("asp 1 0 0" ∷ ls ++ ("0" ∷ [])))) [ refused k n ↦ [] | program ws ↦ ws ]

-- the steps of a proof text
abbrev pub proof : List String → List Step
proof ls = elim (steps_of (lines ls)) [ steps ts ↦ ts | Texts.refused ts k n ↦ [] ]

-- how many nogoods are live after the last step, if the proof is accepted
abbrev pub accepted : List InputRule → List Step → Option ℕ
accepted ws ts =
    elim (Steps.steps (atoms ws) (expand ws) start ts) [ Steps.refused k ↦ none | next z ↦ cond (empty_live z) (some (length z.live)) none ]

-- both halves are accepted with as many live nogoods as given, and merge into the lines given, which are accepted with so many
pub record Merges (ws : List InputRule) (v : ℕ) (first second result : List String) (k₁ k₂ k : ℕ) : Type 0 where
  pub first_good : accepted (demanding_as_written ws (pos v)) (proof first) ≡ some k₁
  pub second-good : accepted (demanding_as_written ws (neg_ℤ (pos v))) (proof second) ≡ some k₂
  pub text : text_of (merged_as_written ws v (proof first) (proof second)) ≡ lines result
  pub good : accepted ws (proof result) ≡ some k

-- A choice over 1 and 2, and a constraint against each of the four sets. In the halves are deletions, names of both kinds that clash, a
-- body that both name, `a` lines with the literal, without it and with its complement, and an `e` for each added constraint's body.
abbrev pub program_a : List String
program_a = "1 1 2 1 2 0 0" ∷ "1 0 0 0 2 1 2" ∷ "1 0 0 0 2 1 -2" ∷ "1 0 0 0 2 -1 2" ∷ "1 0 0 0 2 -1 -2" ∷ []

abbrev pub second_a : List String
second_a =
    "b 4 1 0" ∷ "c 4 0" ∷ "b 3 -1 2 0" ∷ "c 3 0" ∷ "b 7 -1 -2 0" ∷ "c 7 0" ∷ "b 9 2 1 0" ∷ "e 5 9 -3 0" ∷ "a 1 2 0" ∷ "a 9 -1 0" ∷ "a 5 2 0"
    ∷ "c 9 0" ∷ "d 5 2 0" ∷ "a 0" ∷ []

-- what follows the first two lines of A's first half, and the first line of A's result
abbrev pub later_first_a : List String
later_first_a = "b 4 1 2 0" ∷ "c 4 0" ∷ "b 5 1 -2 0" ∷ "c 5 0" ∷ "e 6 0" ∷ "a 2 0" ∷ "d 2 0" ∷ "a -2 0" ∷ "a -1 2 0" ∷ "a 0" ∷ []

abbrev pub later_a : List String
later_a =
    "b 4 1 2 0" ∷ "c 4 0" ∷ "b 5 1 -2 0" ∷ "c 5 0" ∷ "e 6 0" ∷ "a 2 1 0" ∷ "a -2 1 0" ∷ "a 1 0"
    ∷ "e 8 1 0" ∷ "b 10 -1 2 0" ∷ "c 10 0" ∷ "b 7 -1 -2 0" ∷ "c 7 0" ∷ "e 11 4 -10 0" ∷ "a 4 -1 0" ∷ "a 11 2 -1 0" ∷ "c 4 0" ∷ "a -1 0" ∷ "a 0" ∷ []

pub record Worked : Type 0 where
  pub a : Merges (rules program_a) 1 ("b 3 -1 0" ∷ "c 3 0" ∷ later_first_a) second_a ("e 3 -1 0" ∷ later_a) 15 21 32
  pub bytes : length (lines ("e 3 -1 0" ∷ later_a)) ≡ 167
  -- the program has the added constraint too: `b` and `c` stay
  pub same-constraint : Merges (rules (program_a ++ ("1 0 0 0 1 -1" ∷ []))) 1 ("b 3 -1 0" ∷ "c 3 0" ∷ later_first_a) second_a
      ("b 3 -1 0" ∷ "c 3 0" ∷ later_a) 15 21 33
  -- as a minimal set of a weight constraint, likewise
  pub same-minimal : Merges (rules (program_a ++ ("1 0 0 1 2 2 -1 2 2 1" ∷ []))) 1 ("b 3 -1 0" ∷ "c 3 0" ∷ later_first_a) second_a
      ("b 3 -1 0" ∷ "c 3 0" ∷ later_a) 15 21 33
  -- its body is that of a rule with a head: `b` and the `c` of that rule stay, and the constraint's `c` goes
  pub same_body : Merges (rules (program_a ++ ("1 0 1 2 0 1 -1" ∷ []))) 1 ("b 3 -1 0" ∷ "c 3 0" ∷ "c 3 2 0" ∷ later_first_a) second_a
      ("b 3 -1 0" ∷ "c 3 2 0" ∷ later_a) 16 21 33
  -- both halves name the body {-1}, the first half as an added one
  pub one : Merges (rules ("1 0 1 1 0 1 -1" ∷ [])) 1 ("b 2 -1 0" ∷ "c 2 0" ∷ "c 2 1 0" ∷ "s 1 2 0" ∷ "a 0" ∷ [])
      ("b 2 -1 0" ∷ "b 3 1 0" ∷ "c 3 0" ∷ "c 2 1 0" ∷ "s 1 2 0" ∷ "a 0" ∷ [])
      ("b 2 -1 0" ∷ "c 2 1 0" ∷ "s 1 2 0" ∷ "a 1 0" ∷ "e 3 1 0" ∷ "c 2 1 0" ∷ "s 1 2 0" ∷ "a -1 0" ∷ "a 0" ∷ []) 6 8 11
  -- N is 5, by a literal of weight 0: the new name is above it
  pub as_written : Merges (rules ("1 0 1 1 0 1 -1" ∷ "1 0 0 1 1 1 5 0" ∷ [])) 1 ("b 6 -1 0" ∷ "c 6 0" ∷ "c 6 1 0" ∷ "s 1 6 0" ∷ "a 0" ∷ [])
      ("b 6 1 0" ∷ "c 6 0" ∷ "b 7 -1 0" ∷ "c 7 1 0" ∷ "s 1 7 0" ∷ "a 0" ∷ [])
      ("b 6 -1 0" ∷ "c 6 1 0" ∷ "s 1 6 0" ∷ "a 1 0" ∷ "e 8 1 0" ∷ "c 6 1 0" ∷ "s 1 6 0" ∷ "a -1 0" ∷ "a 0" ∷ []) 6 8 11
