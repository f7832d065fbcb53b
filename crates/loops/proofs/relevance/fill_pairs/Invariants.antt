use mathlib.Core.Bool.{cond}
use mathlib.Core.List.{List}
use Prim.Native.Nat.{ℕ, ◌*◌}
use lib.IntN.{ℤ}
use Rattle.weights.specs.Weights.{Weighted, paired}
use Rattle.loops.specs.Relevance.{is_relevant}
use Rattle.loops.proofs.Filling.{Filled}
use Rattle.loops.proofs.relevance.fill_pairs.Given as goal

-- the entry of a pair
abbrev pub entry : ℕ → List ℤ → Weighted → ℕ
entry bound pairs x = cond (is_relevant bound (paired pairs) x.literal) 1 0

abbrev pub invariant-loop-n : goal.invariant-loop-n
invariant-loop-n l = Filled (entry l.bound l.pairs) l.pairs l.entries l.n (2 * l.n)
