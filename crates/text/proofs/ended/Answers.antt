-- `text::ended` meets its contract: a space, a newline, or no end of a number.
-- Assumes nothing.
use mathlib.Core.Path.{◌≡◌, refl, sym, ◌∙◌}
use mathlib.Core.Bool.{Bool}
use Prim.Native.Nat.{ℕ}
use Rattle.text.specs.declared.Class.{Class}
use Rattle.text.specs.declared.Class.TheVariants.{Newline, Space, Minus, Digit, Step, Other}
use Rattle.text.specs.Scan.{Put, Last, Fail, turn, ending}
use Rattle.text.proofs.Turns.{acts}
use Rattle.text.proofs.ended.Goals as goal
use Rattle.text.proofs.ended.Goals.{in-Space, in-Newline}

no-end : (neg : Bool) (m : ℕ) (c : Class) → (c ≡ Newline → ⊥) → (c ≡ Space → ⊥) → ending neg m c ≡ Fail
no-end neg m Newline n s = absurd (n refl)
no-end neg m Space n s = absurd (s refl)
no-end neg m Minus n s = refl
no-end neg m (Digit d) n s = refl
no-end neg m (Step x) n s = refl
no-end neg m Other n s = refl

pub returns-in_default : goal.returns-in_default
unfolding turn
returns-in_default c = let a = c.args in record {
  scanned = λ n seen row. acts a.text.now a.at n seen row (ending a.negative a.size) (λ x. Fail) (sym c.class_from.ensures)
      (no-end a.negative a.size c.class_from.result c.in_default.not-Newline c.in_default.not-Space);
  within = tt;
}

pub returns-clause-scanned : goal.returns-clause-scanned
unfolding turn
returns-clause-scanned c = let a = c.args in
    λ n seen row. elim c.match-class_from.branch [
      | in-Space w ↦ rw w.last-is (acts a.text.now a.at n seen row (ending a.negative a.size) (λ x. Put a.negative a.size) (sym c.class_from.ensures ∙ w.in-Space.is) refl)
      | in-Newline w ↦ rw w.last-is (acts a.text.now a.at n seen row (ending a.negative a.size) (λ x. Last a.negative a.size) (sym c.class_from.ensures ∙ w.in-Newline.is) refl)
    ]
