use lib.IntN.{pos}
use lib.ListN.{get_or}
use Rattle.words.proofs.Words.{back}
use Rattle.steps.proofs.Kept.{kept-fits}
use Rattle.steps.proofs.naming.define.Goals as goal

pub returns : goal.returns
returns c = let a = c in
    let m = c in
    let v = c in
    let x = get_or v.args.numbers.now 0 (pos 0) in record { known = rw (v.variable_of.ensures, back x v.variable_of-arg-1.given) at m.mark.ensures.marks; defined = λ b H. rw c.fitted.ensures (kept-fits _ _ _ a.append.result (a.append.ensures b H)) }
