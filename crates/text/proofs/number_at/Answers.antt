-- `text::number_at` meets its contract: a minus and a number from its first digit on, or such a number alone.
-- Assumes nothing.
use mathlib.Core.Path.{◌≡◌, refl, sym, ◌∙◌}
use mathlib.Core.Bool.{false}
use Rattle.text.specs.declared.Class.{Class}
use Rattle.text.specs.declared.Class.TheVariants.{Newline, Space, Minus, Digit, Step, Other}
use Rattle.text.specs.Scan.{Word, Sign, Go, turn, action_of, beginning}
use Rattle.text.proofs.Turns.{acts, one, sign-begins}
use Rattle.text.proofs.number_at.Goals as goal

no-minus : (c : Class) → (c ≡ Minus → ⊥) → action_of Word c ≡ beginning false c
no-minus Newline f = refl
no-minus Space f = refl
no-minus Minus f = absurd (f refl)
no-minus (Digit d) f = refl
no-minus (Step x) f = refl
no-minus Other f = refl

pub returns-in-Minus-clause-scanned : goal.returns-in-Minus-clause-scanned
unfolding turn
returns-in-Minus-clause-scanned c = let a = c.args in
    λ n seen row. one a.text.now Word n seen row a.at
    ∙ acts a.text.now a.at n seen row (action_of Word) (λ x. Go Sign) (sym c.class_from.ensures ∙ c.in-Minus.is) refl
    ∙ sign-begins a.text.now n seen row _ ∙ c.unsigned_at.ensures.scanned n seen row

pub returns-in_default : goal.returns-in_default
returns-in_default c = let a = c.args in
    let k = c.class_from in
    let u = c.unsigned_at-in_default.ensures in record {
      scanned = λ n seen row. one a.text.now Word n seen row a.at
          ∙ acts a.text.now a.at n seen row (action_of Word) (beginning false) (sym k.ensures) (no-minus k.result c.in_default.not-Minus) ∙ u.scanned n seen row;
      within = u.within;
    }
