use native.Mathlib.Omega.{arith}
use Rattle.totalizer.proofs.Emitted.{emits-full, emits-last, emits_one}
use Rattle.totalizer.proofs.texts.emit.Goals as goal

pub returns-then-place-gt-MOST_RULES : goal.returns-then-place-gt-MOST_RULES
returns-then-place-gt-MOST_RULES c x e = let s = c in emits-full _ s.args.place s.requires.place _ c.if-place-gt-MOST_RULES.true

pub returns-then-place-eq-MOST_RULES : goal.returns-then-place-eq-MOST_RULES
returns-then-place-eq-MOST_RULES c x e = let s = c in emits-last _ s.args.place s.requires.place x c.if-place-eq-MOST_RULES.true

pub returns : goal.returns
returns c x e =
    let s = c in
    let l = c.put_line-at in
    emits_one _ s.args.place s.requires.place x _ e s.requires.few (omega (arith, c.if-place-gt-MOST_RULES.false, c.if-place-eq-MOST_RULES.false)) l.ensures.written l.ensures.within l.auto.output
