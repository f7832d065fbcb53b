use Prim.Native.Nat.{ℕ, ◌*◌, ◌≤◌}
use native.Mathlib.Nat.{mul-le-mul_left}
use native.Mathlib.Omega.{arith}
use Rattle.watches.proofs.pieces.product.Goals as goal

small : {a b : ℕ} → a ≤ 10000000000 → b ≤ 127 → a * b ≤ 1270000000000
small {a} {b} h k = omega (arith, h, mul-le-mul_left {m = b} {n = 127} a k)

pub overflow_mul-result : goal.overflow_mul-result
overflow_mul-result c = record { fits = omega (arith, small c.requires.0 c.requires.1) }

pub returns : goal.returns
returns c = small c.requires.0 c.requires.1
