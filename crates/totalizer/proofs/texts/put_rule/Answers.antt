use native.Mathlib.Omega.{arith}
use Rattle.text.proofs.Puts.{put_on}
use Rattle.totalizer.proofs.RuleTexts.{line-put}
use Rattle.totalizer.proofs.texts.put_rule.Goals as goal

pub returns : goal.returns
returns c = let s = c in
    let head = c.put_head-heads.ensures in
    let body = c.put_body.ensures in record { written = λ x rest e. line-put x rest s.args.words.now e (put_on head.written body.written); within = omega (arith, head.within, body.within) }
