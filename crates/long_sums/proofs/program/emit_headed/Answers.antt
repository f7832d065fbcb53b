use native.Mathlib.Omega.{arith}
use Rattle.totalizer.proofs.Emitted.{emits-last, emits-put}
use Rattle.long_sums.proofs.program.emit_headed.Goals as goal

pub returns-then-place-eq-MOST_RULES : goal.returns-then-place-eq-MOST_RULES
returns-then-place-eq-MOST_RULES c = let s = c in emits-last _ s.args.place s.requires.place.0 _ c.if-place-eq-MOST_RULES.true

pub returns : goal.returns
returns c =
    let s = c in
    let l = c.put_headed-at in
    emits-put _ s.args.place s.requires.place.0 _ (omega (arith, s.requires.place.1, c.if-place-eq-MOST_RULES.false)) l.ensures.written l.ensures.within l.auto.output
