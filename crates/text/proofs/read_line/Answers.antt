-- `text::read_line` meets its contract. The loop's invariant: the whole scan is the scan of what is left, with what was found so far.
-- Assumes nothing.
use mathlib.Core.Path.{◌≡◌, refl, sym, ◌∙◌}
use native.Mathlib.Omega.{arith}
use Rattle.text.specs.declared.Class.{Class}
use Rattle.text.specs.declared.Class.TheVariants.{Newline, Space, Minus, Digit, Step, Other}
use Rattle.text.specs.Scan.{Start, Word, Empty, turn, action_of, unseen}
use Rattle.text.proofs.Bridge.{reads}
use Rattle.text.proofs.Turns.{acts, one}
use borrow.Author.Rules.{rules}
use Rattle.text.proofs.read_line.Goals as goal

pub returns-in-Newline : goal.returns-in-Newline
unfolding turn
returns-in-Newline c =
    let a = c.args in
    reads (search rules)
    (one a.text.now Start 0 unseen a.row.now 0
    ∙ acts a.text.now 0 0 unseen a.row.now (action_of Start) (λ x. Empty) (sym c.class_from.ensures ∙ c.in-Newline.is) refl)

no-newline : (c : Class) → (c ≡ Newline → ⊥) → action_of Start c ≡ action_of Word c
no-newline Newline f = absurd (f refl)
no-newline Space f = refl
no-newline Minus f = refl
no-newline (Digit d) f = refl
no-newline (Step x) f = refl
no-newline Other f = refl

pub loop-number-init : goal.loop-number-init
loop-number-init c =
    let s = c.args.text.now in
    let row = c.args.row.now in
    let k = c.class_from in (
      search rules,
      search rules,
      refl,
      one s Start 0 unseen row 0
          ∙ acts s 0 0 unseen row (action_of Start) (action_of Word) (sym k.ensures) (no-newline k.result c.in_default.not-Newline)
          ∙ sym (one s Word 0 unseen row 0),
    )

pub loop-number-preserved : goal.loop-number-preserved
loop-number-preserved c =
    let l = c.loop-number in
    let r = c.in_ok-number.ensures in (
      r.within.1,
      omega (arith, r.within.0, l.invariant.1),
      search rules,
      rw (c.with-seen.ensures, c.store.ensures) (l.invariant.3 ∙ (rw c.if-number.false at r.scanned l.count l.seen l.row)),
    )

pub returns-in_err-number : goal.returns-in_err-number
returns-in_err-number c =
    let l = c.loop-number in
    rw c.from_residual.ensures (reads (search rules) (l.invariant.3 ∙ c.in_err-number.ensures.scanned l.count l.seen l.row))

pub returns-then-number : goal.returns-then-number
returns-then-number c =
    let l = c.loop-number in
    let r = c.in_ok-number.ensures in
    reads (search rules) (l.invariant.3 ∙ (rw c.if-number.true at r.scanned l.count l.seen l.row) ∙ rw (c.end.ensures, c.store.ensures))
