use native.Mathlib.Omega.{arith}
use Rattle.totalizer.proofs.Emitted.{emits-full, emits-last, emits-put}
use Rattle.totalizer.proofs.texts.emit_rule.Goals as goal

pub returns-then-place-gt-MOST_RULES : goal.returns-then-place-gt-MOST_RULES
returns-then-place-gt-MOST_RULES c x rest e = let s = c in emits-full _ s.args.place s.requires.place _ c.if-place-gt-MOST_RULES.true

pub returns-then-place-eq-MOST_RULES : goal.returns-then-place-eq-MOST_RULES
returns-then-place-eq-MOST_RULES c x rest e = let s = c in emits-last _ s.args.place s.requires.place x c.if-place-eq-MOST_RULES.true

pub returns : goal.returns
returns c x rest e =
    let s = c in
    let l = c.put_rule-at in
    emits-put _ s.args.place s.requires.place x (omega (arith, c.if-place-gt-MOST_RULES.false, c.if-place-eq-MOST_RULES.false)) (l.ensures.written x rest e) l.ensures.within l.auto.output
