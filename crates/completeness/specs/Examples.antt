-- What is found on starred examples of document 01: an answer set, or a derivation as the text of its lines. proofs/Examples.antt computes it for
-- `complete` of proofs/Complete.antt, which names the bodies, the last first, and then tries the sets of atoms: {1, 2}, {1}, {2}, {}.
-- Assumes nothing.
use Rattle.std.specs.Prelude.{◌≡◌, ◌⊎◌, List, [], ◌∷◌, ℕ, pos, negsuc, take}
use Rattle.std.proofs.Common.{inl, inr}
use Rattle.text.specs.Strings.{lines}
use Rattle.aspif.specs.Rules.{Rule}
use Rattle.aspif.specs.declared.Kind.TheVariants.{Normal, Choice}
use Rattle.drupe.specs.Texts.{text_of}
use Rattle.completeness.specs.Claims.{WellFormed, Answer, Refutation, Complete}

-- example 1: 1 where 1 is not; `negsuc 0` is the literal -1
abbrev pub one : List Rule
one = record { kind = Normal; heads = pos 1 ∷ []; body = negsuc 0 ∷ [] } ∷ []

-- example 5: 1 where 2 is, 2 where 1 is, and 1 has to be
abbrev pub five : List Rule
five =
    record { kind = Normal; heads = pos 1 ∷ []; body = pos 2 ∷ [] }
    ∷ record { kind = Normal; heads = pos 2 ∷ []; body = pos 1 ∷ [] }
    ∷ record { kind = Normal; heads = []; body = negsuc 0 ∷ [] } ∷ []

-- example 6: "example 5's first two rules"
abbrev pub six : List Rule
six = take 2 five

-- example 7: a choice of 1
abbrev pub seven : List Rule
seven = record { kind = Choice; heads = pos 1 ∷ []; body = [] } ∷ []

pub data Found : Type 0 where
  set : List ℕ → Found
  proof : List ℕ → Found

abbrev pub found : {N : ℕ} {P : List Rule} → Answer N P ⊎ Refutation N P → Found
found (inl a) = set a.0
found (inr r) = proof (text_of r.lines)

pub record Worked (complete : Complete) : Type 0 where
  -- {1} goes against the support of 1, {} against the rule
  pub one_formed : WellFormed 1 one
  pub one_found : found (complete 1 one one_formed)
      ≡ proof (lines ("b 2 -1 0" ∷ "s 1 2 0" ∷ "a 1 0" ∷ "c 2 1 0" ∷ "a -1 0" ∷ "a 0" ∷ []))
  -- {1, 2} goes against the loop, {1}, {2} and {} against a rule each
  pub five_formed : WellFormed 2 five
  pub five_found : found (complete 2 five five_formed)
      ≡ proof (lines (
      "b 3 -1 0" ∷ "b 4 1 0" ∷ "b 5 2 0" ∷ "l 2 1 0" ∷ "a 2 1 0" ∷ "c 4 2 0" ∷ "a -2 1 0" ∷ "a 1 0"
      ∷ "c 5 1 0" ∷ "a 2 -1 0" ∷ "c 3 0" ∷ "a -2 -1 0" ∷ "a -1 0" ∷ "a 0" ∷ []
      ))
  -- {1, 2} goes against the loop, {1} and {2} against a rule; {} is an answer set
  pub six_formed : WellFormed 2 six
  pub six_found : found (complete 2 six six_formed) ≡ set []
  pub seven_formed : WellFormed 1 seven
  pub seven_found : found (complete 1 seven seven_formed) ≡ set (1 ∷ [])
