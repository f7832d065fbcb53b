use mathlib.Core.Path.{◌≡◌}
use mathlib.Core.Bool.{true, false}
use Prim.Native.Nat.{ℕ, ◌+◌, ◌*◌, ◌%◌, ◌≤◌, ◌<◌}
use lib.Signed.{lt_z}
use native.Mathlib.Omega.{arith}
use lib.IntN.{ℤ, pos}
use mir.Syntax.{w32}
use mir.Facts.{to_z-of_z}
use Rattle.words.specs.Literals.{variable}
use Rattle.words.proofs.Words.{variable-most}
use Rattle.heads.specs.Heads.{mixed, hashes}
use borrow.Author.Rules.{rules}
use Rattle.heads.proofs.mix.Goals as goal
use Rattle.heads.proofs.mix.Goals.{After-variable_of-v}

v-is : (c : After-variable_of-v) → c.variable_of-v.result ≡ variable c.args.word
v-is c = rw (to_z-of_z c.ranges.word) at c.variable_of-v.ensures

mixed-neg : (h : ℕ) (z : ℤ) (v : ℕ) → v ≡ variable z → lt_z z (pos 0) ≡ true → (h * 1567 + v + 1024) % hashes ≡ mixed h z
unfolding mixed
mixed-neg h z v e t = rw (e, t)

mixed-pos : (h : ℕ) (z : ℤ) (v : ℕ) → v ≡ variable z → lt_z z (pos 0) ≡ false → (h * 1567 + v + 0) % hashes ≡ mixed h z
unfolding mixed
mixed-pos h z v e t = rw (e, t)

below : (n : ℕ) → n % hashes < hashes
below n = omega arith

-- the sums fit
module _ (c : After-variable_of-v) where
  room : (c.args.h < hashes) × (c.variable_of-v.result ≤ 2147483648)
  room = (c.requires, omega (arith, v-is c, variable-most w32 _ c.ranges.word))

pub overflow_add-result : goal.overflow_add-result
overflow_add-result c = let k = room (goal.at.overflow_add-result c).After-variable_of-v in search rules

pub overflow_add-result-then-word-lt0 : goal.overflow_add-result-then-word-lt0
overflow_add-result-then-word-lt0 c = let k = room (goal.at.overflow_add-result-then-word-lt0 c).After-variable_of-v in search rules

pub overflow_add-result-else-word-lt0 : goal.overflow_add-result-else-word-lt0
overflow_add-result-else-word-lt0 c = let k = room (goal.at.overflow_add-result-else-word-lt0 c).After-variable_of-v in search rules

pub overflow_add-result-else-word-lt0-2 : goal.overflow_add-result-else-word-lt0-2
overflow_add-result-else-word-lt0-2 c = let k = room (goal.at.overflow_add-result-else-word-lt0-2 c).After-variable_of-v in search rules

pub returns-then-word-lt0 : goal.returns-then-word-lt0
returns-then-word-lt0 c = let f = c.ranges.word in record { mixed = (mixed-neg _ _ _ (v-is (goal.at.returns-then-word-lt0 c).After-variable_of-v) (simp (to_z-of_z f) at c.if-word-lt0.true), below _) }

pub returns-else-word-lt0 : goal.returns-else-word-lt0
returns-else-word-lt0 c = let f = c.ranges.word in record { mixed = (mixed-pos _ _ _ (v-is (goal.at.returns-else-word-lt0 c).After-variable_of-v) (simp (to_z-of_z f) at c.if-word-lt0.false), below _) }
