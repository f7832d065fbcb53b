use native.Mathlib.Omega.{arith}
use Rattle.text.specs.Decimals.{spaced}
use Rattle.text.proofs.Puts.{put-none}
use Rattle.totalizer.proofs.RuleTexts.{spaced-one}
use Rattle.joins.proofs.Joins.{said-none, said-some}
use Rattle.joins.proofs.joining.put_said.Goals as goal

pub returns-then-i-eq0 : goal.returns-then-i-eq0
unfolding spaced
returns-then-i-eq0 c = let s = c in record { written = rw (said-none s.args.first c.if-i-eq0.true) (put-none _ _); within = omega arith }

pub returns : goal.returns
returns c = let s = c in
    let e = c.put_size.ensures in record { written = rw (said-some s.args.first s.args.i c.if-i-eq0.false, spaced-one) e.written; within = e.within }
