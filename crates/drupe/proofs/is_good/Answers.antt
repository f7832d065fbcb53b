-- `drupe::is_good` meets its contract.
-- Assumes nothing.
use mathlib.Core.Path.{refl, sym, ◌∙◌}
use borrow.Author.Tests.{lt-ltb, le-ltb}
use Rattle.drupe.proofs.Lines.{good-parts}
use Rattle.drupe.proofs.is_good.Goals as goal

pub returns-then-largest_variable-gt-LARGEST : goal.returns-then-largest_variable-gt-LARGEST
returns-then-largest_variable-gt-LARGEST c =
    let a = c.args in
    let t = lt-ltb _ _ c.if-largest_variable-gt-LARGEST.true in
    sym (good-parts a.letter a.numbers.now (rw c.largest_variable.ensures at t) (le-ltb _ _ c.if-numbers-gt-MOST_NUMBERS.false) refl refl)

pub returns : goal.returns
returns c =
    let a = c.args in
    let t = le-ltb _ _ c.if-largest_variable-gt-LARGEST.false in
    c.sort_distinct.ensures.sorted.0
    ∙ sym
    (good-parts a.letter a.numbers.now (rw c.largest_variable.ensures at t) (le-ltb _ _ c.if-numbers-gt-MOST_NUMBERS.false) (sym c.is_signed.ensures ∙ c.if-not-is_signed.false) refl)
