use native.Mathlib.Omega.{arith}
use Rattle.totalizer.proofs.Emitted.{emits-full, emits-last, emits_one}
use Rattle.totalizer.proofs.Groups.{sum-numbers}
use Rattle.totalizer.proofs.texts.emit_sum.Goals as goal

pub returns-then-place-gt-MOST_RULES : goal.returns-then-place-gt-MOST_RULES
returns-then-place-gt-MOST_RULES c = let s = c in emits-full _ s.args.place s.requires.place _ c.if-place-gt-MOST_RULES.true

pub returns-then-place-eq-MOST_RULES : goal.returns-then-place-eq-MOST_RULES
returns-then-place-eq-MOST_RULES c = let s = c in emits-last _ s.args.place s.requires.place _ c.if-place-eq-MOST_RULES.true

pub returns : goal.returns
returns c =
    let s = c in
    let a = s.args in
    let l = c.put_sum-at in
    let e = sum-numbers a.atom a.level a.pairs.now s.requires.pairs.0 in
    emits_one _ a.place s.requires.place _ _ e (omega (arith, s.requires.pairs.1)) (omega (arith, c.if-place-gt-MOST_RULES.false, c.if-place-eq-MOST_RULES.false)) l.ensures.written (omega (arith, l.ensures.within)) l.auto.output
