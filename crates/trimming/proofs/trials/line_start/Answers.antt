use mathlib.Core.Path.{◌≡◌, sym, ◌∙◌}
use Prim.Native.Nat.{◌+◌, ◌-◌}
use native.Mathlib.Omega.{arith}
use Rattle.trimming.proofs.Newlines.{later-none, later-on, line-found, line_first}
use Rattle.trimming.proofs.trials.line_start.Goals as goal

pub loop-before-init : goal.loop-before-init
loop-before-init c = later-none _ _ c.requires.inside.1

pub returns-then-is_newline-clause-line : goal.returns-then-is_newline-clause-line
returns-then-is_newline-clause-line c =
    let l = c.loop-before in
    let e : l.before - 1 + 1 ≡ l.before = omega arith in
    rw e (line-found _ _ c.requires.inside.1 l.before c.loop-before-test.true (omega arith) (sym c.is_newline.ensures ∙ c.if-is_newline.true) l.invariant)

pub loop-before-preserved : goal.loop-before-preserved
loop-before-preserved c =
    let l = c.loop-before in
    later-on _ _ c.requires.inside.1 l.before c.loop-before-test.true (omega arith) (sym c.is_newline.ensures ∙ c.if-is_newline.false) l.invariant

pub returns-clause-line : goal.returns-clause-line
returns-clause-line c =
    let l = c.loop-before in
    let z : l.before ≡ 0 = omega (arith, c.loop-before-test.false) in
    line_first _ _ c.requires.inside.1 (rw z at l.invariant)
