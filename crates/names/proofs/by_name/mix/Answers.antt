-- `by_name::mix` meets its contract: by the sign of the literal.
-- Assumes nothing.
use mathlib.Core.Path.{◌≡◌}
use mathlib.Core.Bool.{true, false}
use Prim.Native.Nat.{ℕ, ◌+◌, ◌*◌, ◌%◌, ◌<◌}
use native.Mathlib.Omega.{arith}
use lib.IntN.{ℤ, pos}
use lib.Signed.{lt_z}
use mir.Facts.{to_z-of_z}
use Rattle.words.specs.Limits.{entries}
use Rattle.words.specs.Literals.{variable}
use Rattle.names.specs.ByName.{keys, mixed}
use Rattle.names.proofs.by_name.mix.Goals as goal
use Rattle.names.proofs.by_name.mix.Goals.{After-variable_of-v}

v-is : (c : After-variable_of-v) → c.variable_of-v.result ≡ variable c.args.word
v-is c = rw (to_z-of_z c.ranges.word) at c.variable_of-v.ensures

mixed-neg : (k : ℕ) (z : ℤ) (v : ℕ) → v ≡ variable z → lt_z z (pos 0) ≡ true → (k + v % entries + entries) * 1640531527 % keys ≡ mixed k z
unfolding mixed
mixed-neg k z v e t = rw (e, t)

mixed-pos : (k : ℕ) (z : ℤ) (v : ℕ) → v ≡ variable z → lt_z z (pos 0) ≡ false → (k + v % entries + 0) * 1640531527 % keys ≡ mixed k z
unfolding mixed
mixed-pos k z v e t = rw (e, t)

below : (n : ℕ) → n % keys < keys
below n = omega arith

pub returns-then-word-lt0 : goal.returns-then-word-lt0
returns-then-word-lt0 c = let f = c.ranges.word in (mixed-neg _ _ _ (v-is (goal.at.returns-then-word-lt0 c).After-variable_of-v) (simp (to_z-of_z f) at c.if-word-lt0.true), below _)

pub returns : goal.returns
returns c = let f = c.ranges.word in (mixed-pos _ _ _ (v-is (goal.at.returns c).After-variable_of-v) (simp (to_z-of_z f) at c.if-word-lt0.false), below _)
