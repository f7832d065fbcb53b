-- `text::unsigned_at` meets its contract: no digit, 0, or a digit that is not 0 with those after it.
-- Assumes nothing.
use mathlib.Core.Path.{◌≡◌, refl, sym, ◌∙◌}
use mathlib.Core.Bool.{Bool, and-true}
use lib.Dec.{eqb}
use Rattle.words.proofs.Lists.{and_left, and_right}
use Prim.Native.Nat.{ℕ}
use borrow.Author.Tests.{ne_eqb}
use Rattle.text.specs.declared.Class.{Class}
use Rattle.text.specs.declared.Class.TheVariants.{Newline, Space, Minus, Digit, Step, Other}
use Rattle.text.specs.Scan.{Zero, Digits, Go, Fail, more_of, turn, beginning}
use Rattle.text.proofs.Turns.{acts, zero-ends}
use Rattle.text.proofs.unsigned_at.Goals as goal

no-digit : (neg : Bool) (c : Class) → ((d : ℕ) → c ≡ Digit d → ⊥) → beginning neg c ≡ Fail
no-digit neg Newline f = refl
no-digit neg Space f = refl
no-digit neg Minus f = refl
no-digit neg (Digit d) f = absurd (f d refl)
no-digit neg (Step x) f = refl
no-digit neg Other f = refl

pub returns-in_default : goal.returns-in_default
unfolding turn
returns-in_default c = let a = c.args in
    let k = c.class_from in record {
      scanned = λ n seen row. acts a.text.now a.at n seen row (beginning a.negative) (λ x. Fail) (sym k.ensures) (no-digit a.negative k.result c.in_default.not-Digit);
      within = tt;
    }

pub returns-then-negative-d-clause-scanned : goal.returns-then-negative-d-clause-scanned
unfolding turn
returns-then-negative-d-clause-scanned c = let a = c.args in
    let d = c.in-Digit.d in
    let t = c.if-negative-d.true in
    λ n seen row. acts a.text.now a.at n seen row (beginning a.negative) (λ x. Fail) (sym c.class_from.ensures ∙ c.in-Digit.is) (rw (and_left a.negative (eqb d 0) t, and_right a.negative (eqb d 0) t))

pub returns-then-d-eq0-clause-scanned : goal.returns-then-d-eq0-clause-scanned
unfolding turn
returns-then-d-eq0-clause-scanned c = let a = c.args in
    λ n seen row. acts a.text.now a.at n seen row (beginning a.negative) (λ x. Go Zero) (sym c.class_from.ensures ∙ c.in-Digit.is) (rw (sym (and-true a.negative) ∙ (rw c.if-d-eq0.true at c.if-negative-d.false), c.if-d-eq0.true))
    ∙ zero-ends a.text.now n seen row _ ∙ c.ended.ensures.scanned n seen row

pub returns-clause-scanned : goal.returns-clause-scanned
unfolding turn
returns-clause-scanned c = let a = c.args in
    let d = c.more_digits-digits in
    λ n seen row. acts a.text.now a.at n seen row (beginning a.negative) (λ x. Go (Digits a.negative (more_of 0 c.in-Digit.d))) (sym c.class_from.ensures ∙ c.in-Digit.is) (rw (ne_eqb _ _ c.if-d-eq0.false))
    ∙ rw (← c.more.ensures) (d.ensures.scanned a.negative n seen row) ∙ c.ended-2.ensures.scanned n seen row
