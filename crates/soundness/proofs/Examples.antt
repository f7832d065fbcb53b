-- The page's definitions at work. Assumes nothing.
use mathlib.Core.Path.{◌≡◌, refl, sym, ◌∙◌, ap, subst}
use mathlib.Core.List.Memᴰ
use mathlib.Core.List.{List, [], ◌∷◌}
use Prim.Native.Nat.{ℕ}
use lib.IntN.{pos}
use lib.ListN.{replicate}
use Rattle.words.specs.Lists.{◌∈◌}
use Rattle.words.specs.Literals.{insert, insert_all}
use Rattle.words.proofs.Lists.{zero_one}
use Rattle.text.specs.Decimals.{decimals, decimal, number_bytes, spaced}
use Rattle.text.specs.Line.{line_of}
use Rattle.text.specs.Strings.{lines}
use Rattle.aspif.specs.Rules.{InputRule, bodies_of, expand_rule, expand}
use Rattle.aspif.specs.Reading.{shape_of, read_lines, read_text, lines_from}
use Rattle.aspif.specs.declared.Kind.TheVariants.{Normal, Choice}
use Rattle.drupe.specs.Texts.{steps_at, steps_within}
use Rattle.derivation.specs.Loops.{is_loop}
use Rattle.nogoods.specs.Store.{live, closed, killed}
use Rattle.runs.specs.Course.{course_within}
use Rattle.checker.specs.Check.{check_within}
use Rattle.checker.specs.Report.{printed}
use Rattle.aspif.specs.Text.{rule_text, rules_text, program_text}
use Rattle.cheapest.specs.Service.{CheapestAnswer, cheapest}
use Rattle.cheapest.specs.Examples.{text_b, proof_q, cost_list}
use Rattle.std.specs.Prelude.{Ok}
use Rattle.cheapest.proofs.Examples as Cases
use Rattle.soundness.specs.Page.{every, Least, derive, HasNone, IsCheapest}
use Rattle.soundness.specs.Examples.{one, seven, two, two_costs, Worked}
use Rattle.soundness.proofs.Printed.{sound-line}
use Rattle.soundness.proofs.Cheapest.{cheapest-printed}

-- starred example 1's proof
one_none : HasNone one
unfolding printed check_within course_within live closed killed steps_within steps_at read_text read_lines lines_from shape_of line_of insert insert_all is_loop expand expand_rule bodies_of decimal decimals number_bytes spaced rule_text rules_text program_text
one_none = sound-line one (lines ("b 2 -1 0" ∷ "c 2 1 0" ∷ "s 1 2 0" ∷ "a 1 0" ∷ "a 0" ∷ [])) (lines (" 1 1 5 6" ∷ [])) refl

-- program B of `cheapest` with proof Q
two-text : program_text two ≡ text_b
unfolding decimal decimals number_bytes spaced rule_text rules_text program_text
two-text = refl

two-cheapest : IsCheapest two two_costs (1 ∷ []) 3
two-cheapest =
    let x = cheapest 20 60 text_b (1 ∷ []) cost_list proof_q in
    let e : record { answer = Ok 3; table = x.table; store = x.store } ≡ x =
    ap (λ (a : CheapestAnswer). record { answer = a; table = x.table; store = x.store }) (sym (Cases.worked).good) in
    cheapest-printed two (1 ∷ []) two_costs proof_q (replicate 20 (pos 0)) (replicate 60 (pos 0)) x.table x.store 3
    (e ∙ ap (λ (text : List ℕ). cheapest 20 60 text (1 ∷ []) cost_list proof_q) (sym two-text))

-- the one rule of example 7 is a choice, and no constraint
only : {r : InputRule} → r ∈ seven → r.kind ≡ Choice
only i = subst (λ (r : InputRule). r.kind ≡ Choice) (sym (Memᴰ.eq_of_singleton i)) refl

chosen : (M : ℕ → Type 0) {a : ℕ} → Least M seven a → M a
chosen M (derive r ls i d c e o f) = c (only i)

no-constraint : {r : InputRule} → r ∈ seven → r.kind ≡ Normal → ⊥
no-constraint i e = apart (sym (only i) ∙ e)
  where
    apart : Choice ≡ Normal → ⊥
    apart q = zero_one (cc)

pub worked : Worked
unfolding decimal decimals number_bytes spaced rule_text rules_text program_text
worked = record {
  one_text = refl;
  seven_text = refl;
  mixed_text = refl;
  two_text = two-text;
  none_text = refl;
  one_none = one_none;
  seven_empty = record { least = λ a. (λ m. absurd m, chosen (λ v. ⊥)); kept = λ r ls i c e o p. no-constraint i c.0 };
  seven_one =
      record {
        least = λ a. (
          λ m. derive _ [] (Memᴰ.head refl) (Memᴰ.head (subst (λ (n : ℕ). pos n ≡ pos 1) (sym m) refl)) (λ q. m) every (λ n j. elim j [ ]) (λ b j. elim j [ ]),
          chosen (λ v. v ≡ 1),
        );
        kept = λ r ls i c e o p. no-constraint i c.0;
      };
  two_cheapest = two-cheapest;
}
