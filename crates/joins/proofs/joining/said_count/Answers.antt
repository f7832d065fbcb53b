use mathlib.Core.Path.{sym, ap}
use mathlib.Core.List.{List}
use native.Mathlib.Omega.{arith}
use lib.IntN.{ℤ}
use lib.ListN.{length}
use Rattle.joins.proofs.Joins.{said-none, said-some}
use Rattle.joins.proofs.joining.said_count.Goals as goal

pub returns-then-i-eq0 : goal.returns-then-i-eq0
returns-then-i-eq0 c = (λ n. sym (ap (λ (l : List ℤ). length l) (said-none n c.if-i-eq0.true)), omega arith)

pub returns-else-i-eq0 : goal.returns-else-i-eq0
returns-else-i-eq0 c = (λ n. sym (ap (λ (l : List ℤ). length l) (said-some n _ c.if-i-eq0.false)), omega arith)
