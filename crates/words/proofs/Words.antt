-- Laws on signed words, of any width where not said to be of 32 bits: what a read, a test or a cast of one tells.
-- Assumes nothing.
use mathlib.Core.Path.{◌≡◌, refl, sym, ap, ◌∙◌}
use mathlib.Core.Bool.{Bool, true, false, true≢false}
use Prim.Native.Nat.{ℕ, zero, suc, ◌<◌, ◌≤◌, ◌^◌}
use native.Mathlib.Omega.{arith}
use borrow.Author.Tests.{ltb-true, eq-eqb, ne_eqb}
use lib.Dec.{T, eqb}
use lib.IntN.{ℤ, pos, negsuc, neg_ℤ, nat_abs}
use lib.Signed.{mag, lt_z, non_neg}
use mir.Syntax.{Width, w32, w64}
use mir.Val.{SFits, to_z, of_z, hbits}
use mir.Facts.{to_z-of_z, sfits_widen}
use Rattle.words.specs.Literals.{variable, same}
use Rattle.words.proofs.Lists.{if-true, is_true}
use Rattle.words.proofs.Literals.{same-decides}

-- a word is its bits read back, at any width and at 32 bits
pub back_at : (w : Width) (z : ℤ) → mag z < 2 ^ hbits w → to_z w (of_z w z) ≡ z
back_at w z h = to_z-of_z (record { sfits = h })

pub back : (z : ℤ) → mag z < 2 ^ 31 → to_z w32 (of_z w32 z) ≡ z
back = back_at w32

-- a number with its sign changed fits where the number does, and the variable of a word is no more than a word can say
pub neg-fits : (w : Width) (m : ℕ) → m < 2 ^ hbits w → SFits w (neg_ℤ (pos m))
neg-fits w zero h = record { sfits = h }
neg-fits w (suc n) h = record { sfits = omega arith }

pub variable-most : (w : Width) (z : ℤ) → SFits w z → variable z ≤ 2 ^ hbits w
variable-most w (pos n) f = omega (arith, f.sfits)
variable-most w (negsuc n) f = omega (arith, f.sfits)

-- a word of 32 bits, and its negation, fits 64 bits
pub wide : (z : ℤ) → SFits w32 z → SFits w64 z
wide z f = sfits_widen tt f

pub wide-neg : (z : ℤ) → SFits w32 z → SFits w64 (neg_ℤ z)
wide-neg (pos zero) f = record { sfits = omega arith }
wide-neg (pos (suc n)) f = record { sfits = omega (arith, f.sfits) }
wide-neg (negsuc n) f = record { sfits = omega (arith, f.sfits) }

-- what a cast of a word of 32 bits, or of its negation, to a size asks
pub cast-neg : (z : ℤ) → SFits w32 z → lt_z z (pos 0) ≡ true → T (non_neg (neg_ℤ z)) × (nat_abs z < 2 ^ 64)
cast-neg (pos n) f h = absurd (omega (arith, ltb-true n 0 h))
cast-neg (negsuc n) f h = (tt, omega (arith, f.sfits))

pub cast-pos : (z : ℤ) → SFits w32 z → lt_z z (pos 0) ≡ false → T (non_neg z) × (nat_abs z < 2 ^ 64)
cast-pos (pos n) f h = (tt, omega (arith, f.sfits))
cast-pos (negsuc n) f h = absurd (true≢false h)

-- the test `a == b` of two words of one width
pub same_bits : {w : Width} {a b : ℤ} → SFits w a → SFits w b → eqb (of_z w a) (of_z w b) ≡ same a b
same_bits {w} {a} {b} f g = go (same a b) refl
  where
    go : (t : Bool) → same a b ≡ t → eqb (of_z w a) (of_z w b) ≡ t
    go true e = eq-eqb (of_z w a) (of_z w b) (ap (of_z w) (if-true (same-decides a b) e))
    go false e = ne_eqb (of_z w a) (of_z w b) (λ k. true≢false (sym (is_true (same-decides a b) (sym (to_z-of_z f) ∙ ap (to_z w) k ∙ to_z-of_z g)) ∙ e))
