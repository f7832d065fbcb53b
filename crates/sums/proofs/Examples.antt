-- Worked splits, computed. Assumes nothing.
use mathlib.Core.Path.{◌≡◌, refl, sym, subst}
use mathlib.Core.List.Memᴰ
use mathlib.Core.List.{List, [], ◌∷◌}
use Prim.Native.Nat.{ℕ}
use native.Mathlib.Omega.{arith}
use borrow.Author.Tests.{leb-true}
use lib.IntN.{ℤ, pos, negsuc}
use lib.ListN.{length}
use Rattle.words.specs.Lists.{◌∈◌}
use Rattle.words.specs.Limits.{most_literals}
use Rattle.words.proofs.Lists.{leb-decides, all-decides}
use Rattle.weights.specs.Weights.{Weighted, most_weight}
use Rattle.aspif.specs.Rules.{Body, plain, weights, InputRule, atoms}
use Rattle.aspif.specs.Text.{program_text}
use Rattle.aspif.specs.Reading.{program, read_lines}
use Rattle.aspif.specs.declared.Kind.TheVariants.{Normal}
use Rattle.sums.specs.Plans.{split, in_turn, node_rules, join_bodies}
use Rattle.sums.specs.Levels.{few, both, merge, raised, further, sums_of, levels_for, levelled, divided_by, split_program, chunks, in_groups, insert_by, insert_all_by, sorted_groups}
use Rattle.aspif.specs.Claims.{FormedWithin}
use Rattle.sums.proofs.Formed.{split-read}

abbrev w : ℤ → ℕ → Weighted
w z n = record { literal = z; weight = n }

abbrev rule : ℕ → Body → InputRule
rule h b = record { kind = Normal; heads = pos h ∷ []; body = b }

-- 4 where two of 1, 2 and -3 hold, by {1, 2} and {-3}: 5 and 6 say that one and two of the first group hold, 7 that -3 does
abbrev pairs : List Weighted
pairs = w (pos 1) 1 ∷ w (pos 2) 1 ∷ w (negsuc 2) 1 ∷ []

small : split (divided_by (rule 4 (weights 2 pairs)) 2 pairs (both (few (w (pos 1) 1 ∷ w (pos 2) 1 ∷ [])) (few (w (negsuc 2) 1 ∷ []))) ∷ [])
    ≡ rule 5 (weights 1 (w (pos 1) 1 ∷ w (pos 2) 1 ∷ []))
    ∷ rule 6 (weights 2 (w (pos 1) 1 ∷ w (pos 2) 1 ∷ []))
    ∷ rule 7 (weights 1 (w (negsuc 2) 1 ∷ []))
    ∷ rule 8 (plain (pos 5 ∷ pos 7 ∷ []))
    ∷ rule 8 (plain (pos 6 ∷ []))
    ∷ rule 4 (plain (pos 8 ∷ [])) ∷ []
unfolding in_turn node_rules join_bodies merge raised further sums_of levels_for levelled
small = refl

-- 13 literals of weight 1 and bound 7, in groups of 7 and 6: 21 rules over 14 new atoms
abbrev units : List Weighted
units =
    w (pos 1) 1 ∷ w (pos 2) 1 ∷ w (pos 3) 1 ∷ w (pos 4) 1 ∷ w (pos 5) 1 ∷ w (pos 6) 1 ∷ w (pos 7) 1
    ∷ w (pos 8) 1 ∷ w (pos 9) 1 ∷ w (pos 10) 1 ∷ w (pos 11) 1 ∷ w (pos 12) 1 ∷ w (pos 13) 1 ∷ []

abbrev thirteen : List InputRule
thirteen = rule 14 (weights 7 units) ∷ []

counted : length (split_program (in_groups 6) thirteen) ≡ 21
unfolding in_turn node_rules join_bodies merge raised further sums_of levels_for levelled chunks
counted = refl

named : atoms (split_program (in_groups 6) thirteen) ≡ 28
unfolding in_turn node_rules join_bodies merge raised further sums_of levels_for levelled chunks
named = refl

-- it is as a reader would leave it, were sums of 64 literals taken, and the reader that takes 12 reads the text of the split program
formed : (r : InputRule) → r ∈ thirteen → FormedWithin most_literals r
formed r i =
    subst (FormedWithin most_literals) (sym (Memᴰ.eq_of_singleton i))
    (record {
      heads-few = omega arith;
      body-few = omega arith;
      headed = refl;
      positive = refl;
      heads-rise = refl;
      nonzero = refl;
      body-rise = refl;
      heads-in = refl;
      body-in = refl;
      weighing = (omega arith, omega arith, (all-decides (λ x. leb-decides x.weight most_weight) units).to tt);
    })

read : read_lines 1000 (program_text (split_program (sorted_groups 6) thirteen)) ≡ program (split_program (sorted_groups 6) thirteen)
unfolding in_turn node_rules join_bodies merge raised further sums_of levels_for levelled chunks insert_by insert_all_by
read = split-read 6 (omega arith) thirteen formed 1000 (leb-true _ _ refl) (leb-true _ _ refl) (leb-true _ _ refl)

-- 14 literals of the weights 1, 2 and 5 by turns and bound 18, in groups of five: 163 rules as they stand and 27 sorted by weight
abbrev mixed : List InputRule
mixed =
    rule 15 (weights 18 (w (pos 1) 1 ∷ w (pos 2) 2 ∷ w (pos 3) 5 ∷ w (pos 4) 1 ∷ w (pos 5) 2 ∷ w (pos 6) 5 ∷ w (pos 7) 1
    ∷ w (pos 8) 2 ∷ w (pos 9) 5 ∷ w (pos 10) 1 ∷ w (pos 11) 2 ∷ w (pos 12) 5 ∷ w (pos 13) 1 ∷ w (pos 14) 2 ∷ []))
    ∷ []

as-it-stands : length (split_program (in_groups 4) mixed) ≡ 163
unfolding in_turn node_rules join_bodies merge raised further sums_of levels_for levelled chunks
as-it-stands = refl

by-weight : length (split_program (sorted_groups 4) mixed) ≡ 27
unfolding in_turn node_rules join_bodies merge raised further sums_of levels_for levelled chunks insert_by insert_all_by
by-weight = refl
