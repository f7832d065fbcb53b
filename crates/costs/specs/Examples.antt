-- What `LeastFound` finds on a worked case; proofs/Examples.antt computes it for `least-found` of proofs/Found.antt, which tries {1, 2}, {1}, {2}
-- and {}.
-- Assumes nothing.
use Rattle.std.specs.Prelude.{◌≡◌, List, [], ◌∷◌, ℕ, pos, negsuc}
use Rattle.std.proofs.Math.Option.{some}
use Rattle.aspif.specs.Rules.{InputRule, plain, expand, program_words}
use Rattle.aspif.specs.AnswerSets.{AnswerSet}
use Rattle.aspif.specs.Tables.{rules_of}
use Rattle.aspif.specs.declared.Kind.TheVariants.{Normal, Choice}
use Rattle.costs.specs.Costs.{Cost}
use Rattle.costs.specs.OneRate.{LeastFound}

-- program B of crates/cheapest/specs/Examples.antt, a choice over 1 and 2 of which one must hold: the answer sets are {1}, {2} and {1, 2}
abbrev pub rules_b : List InputRule
rules_b =
    record { kind = Choice; heads = pos 1 ∷ pos 2 ∷ []; body = plain [] }
    ∷ record { kind = Normal; heads = []; body = plain (negsuc 0 ∷ negsuc 1 ∷ []) } ∷ []

-- what 1 and 2 cost
abbrev pub costs_b : (w u : ℕ) → List Cost
costs_b w u = record { literal = pos 1; weight = w } ∷ record { literal = pos 2; weight = u } ∷ []

pub record Worked (found : LeastFound) : Type 1 where
  pub read : rules_of (program_words rules_b) 2 ≡ some rules_b
  -- whatever answer set is known
  pub three : (M : ℕ → Type 0) (S : AnswerSet M (expand rules_b)) → (found (program_words rules_b) 2 rules_b read (costs_b 3 5) M S).0 ≡ 3
  pub five : (M : ℕ → Type 0) (S : AnswerSet M (expand rules_b)) → (found (program_words rules_b) 2 rules_b read (costs_b 7 5) M S).0 ≡ 5
  -- -1 and -2 are true where 1 and 2 are outside: {1, 2} costs nothing
  pub nothing : (M : ℕ → Type 0) (S : AnswerSet M (expand rules_b))
      → (found (program_words rules_b) 2 rules_b read (record { literal = negsuc 0; weight = 3 } ∷ record { literal = negsuc 1; weight = 5 } ∷ []) M S).0 ≡ 0
