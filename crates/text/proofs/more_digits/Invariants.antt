-- The scan from the first digit is the scan from here, with the size so far.
use mathlib.Core.Path.{◌≡◌}
use mathlib.Core.Bool.{Bool}
use mathlib.Core.List.{List}
use Prim.Native.Nat.{ℕ}
use lib.IntN.{ℤ}
use Rattle.text.specs.declared.Seen.{Seen}
use Rattle.text.specs.Scan.{Digits, scan_from}
use Rattle.text.proofs.more_digits.Given as goal

abbrev pub invariant-loop-i : goal.invariant-loop-i
invariant-loop-i l =
    (neg : Bool) (n : ℕ) (seen : Seen) (row : List ℤ) → scan_from l.text (Digits neg l.m) n seen row l.from ≡ scan_from l.text (Digits neg l.size) n seen row l.i
