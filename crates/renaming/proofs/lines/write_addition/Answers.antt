use mathlib.Core.Path.{◌≡◌, sym, ap, ◌∙◌}
use borrow.Author.Rules.{sfits_of}
use lib.IntN.{ℤ}
use mir.Syntax.{w32}
use mir.Val.{to_z, of_z}
use mir.Facts.{to_z-of_z}
use Rattle.words.specs.Literals.{complement, has}
use Rattle.renaming.proofs.Written.{none_written, skipped, unwidened, put-behind}
use Rattle.renaming.proofs.lines.write_addition.Goals as goal
use Rattle.renaming.proofs.lines.write_addition.Goals.{After-contains, After-contains-2}

-- the first test
both_ways : (c : After-contains) → (let a = c.args in c.contains.result ≡ has (complement a.x) a.numbers.now)
both_ways c =
    let s = c in
    let k = c.complement_of in
    let y : to_z w32 (of_z w32 k.result) ≡ complement s.args.x = to_z-of_z {w = w32} (sfits_of {z = k.result} k.type_inv) ∙ (k.ensures ∙ ap complement (to_z-of_z s.ranges.x)) in
    c.contains.ensures ∙ ap (λ (z : ℤ). has z s.args.numbers.now) y

-- the second
with-literal : (c : After-contains-2) → (let a = c.args in c.contains-2.result ≡ has a.x a.numbers.now)
with-literal c =
    let s = c in
    c.contains-2.ensures ∙ ap (λ (z : ℤ). has z s.args.numbers.now) (to_z-of_z s.ranges.x)

pub returns-then-contains : goal.returns-then-contains
returns-then-contains c =
    let s = c in
    let a = s.args in
    rw (skipped a.x a.numbers.now (sym (both_ways (goal.at.returns-then-contains c).After-contains) ∙ c.if-contains.true)) (none_written a.output.now a.at s.requires.at)

pub returns-then-contains-2 : goal.returns-then-contains-2
returns-then-contains-2 c =
    let k = (goal.at.returns-then-contains-2 c).After-contains-2 in
    let a = k.args in
    rw (unwidened a.x a.numbers.now (sym (both_ways (goal.at.returns-then-contains-2 c).After-contains) ∙ k.if-contains.false) (sym (with-literal k) ∙ c.if-contains-2.true))
    c.write_line.ensures

pub returns : goal.returns
returns c =
    let k = (goal.at.returns c).After-contains-2 in
    let a = k.args in
    rw (put-behind a.x a.numbers.now (sym (both_ways (goal.at.returns c).After-contains) ∙ k.if-contains.false) (sym (with-literal k) ∙ c.if-contains-2.false))
    (rw (to_z-of_z k.ranges.x) at c.write_widened.ensures)
