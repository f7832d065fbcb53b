-- The page's definitions at work: texts of rules, one program with no answer set, one with two, and one with a cheapest answer set.
-- proofs/Examples.antt proves them.
-- Assumes nothing.
use Rattle.std.specs.Prelude.{◌≡◌, List, [], ◌∷◌, pos, negsuc}
use Rattle.text.specs.Strings.{lines}
use Rattle.weights.specs.Weights.{Weighted}
use Rattle.aspif.specs.Rules.{plain, weights, InputRule}
use Rattle.aspif.specs.declared.Kind.TheVariants.{Normal, Choice}
use Rattle.aspif.specs.Text.{program_text}
use Rattle.cheapest.specs.Examples.{text_b}
use Rattle.soundness.specs.Page.{IsAnswerSet, HasNone, IsCheapest}

-- 1 where 1 is not: starred example 1; `negsuc 0` is the literal -1
abbrev pub one : List InputRule
one = record { kind = Normal; heads = pos 1 ∷ []; body = plain (negsuc 0 ∷ []) } ∷ []

-- a choice of 1: starred example 7
abbrev pub seven : List InputRule
seven = record { kind = Choice; heads = pos 1 ∷ []; body = plain [] } ∷ []

-- a choice of 12 and 3 where 2 is not and 1 is; 1 where 2 with weight 3 and not 3 with weight 2 reach 4; not 1 is broken
abbrev pub mixed : List InputRule
mixed =
    record { kind = Choice; heads = pos 12 ∷ pos 3 ∷ []; body = plain (negsuc 1 ∷ pos 1 ∷ []) }
    ∷ record { kind = Normal; heads = pos 1 ∷ []; body = weights 4 (record { literal = pos 2; weight = 3 } ∷ record { literal = negsuc 2; weight = 2 } ∷ []) }
    ∷ record { kind = Normal; heads = []; body = plain (negsuc 0 ∷ []) } ∷ []

-- a choice of 1 and 2 of which one must hold, with the costs 3 of 1 and 5 of 2: program B of cheapest/specs/Examples.antt
abbrev pub two : List InputRule
two =
    record { kind = Choice; heads = pos 1 ∷ pos 2 ∷ []; body = plain [] }
    ∷ record { kind = Normal; heads = []; body = plain (negsuc 0 ∷ negsuc 1 ∷ []) } ∷ []

abbrev pub two_costs : List Weighted
two_costs = record { literal = pos 1; weight = 3 } ∷ record { literal = pos 2; weight = 5 } ∷ []

pub record Worked : Type 1 where
  pub one_text : program_text one ≡ lines ("asp 1 0 0" ∷ "1 0 1 1 0 1 -1" ∷ "0" ∷ [])
  pub seven_text : program_text seven ≡ lines ("asp 1 0 0" ∷ "1 1 1 1 0 0" ∷ "0" ∷ [])
  pub mixed_text : program_text mixed ≡ lines ("asp 1 0 0" ∷ "1 1 2 12 3 0 2 -2 1" ∷ "1 0 1 1 1 4 2 2 3 -3 2" ∷ "1 0 0 0 1 -1" ∷ "0" ∷ [])
  pub two_text : program_text two ≡ text_b
  pub none_text : program_text [] ≡ lines ("asp 1 0 0" ∷ "0" ∷ [])
  -- by what `verdict` prints of example 1
  pub one_none : HasNone one
  -- "both {} and {1} pass"
  pub seven_empty : IsAnswerSet (λ v. ⊥) seven
  pub seven_one : IsAnswerSet (λ v. v ≡ 1) seven
  -- by what `check_cheapest` answers of it
  pub two_cheapest : IsCheapest two two_costs (1 ∷ []) 3
