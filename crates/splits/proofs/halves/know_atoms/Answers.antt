use mathlib.Core.Path.{◌≡◌, sym, ◌∙◌, ap, subst}
use mathlib.Core.List.{List}
use Prim.Native.Nat.{ℕ, ◌+◌, ◌-◌}
use native.Mathlib.Omega.{arith}
use lib.ListN.{replicate}
use Rattle.words.specs.Limits.{entries}
use Rattle.marks.proofs.Sets.{MarkedSoFar, found_none, found-on, found_all, up_to-on, up_to-end}
use Rattle.splits.proofs.halves.know_atoms.Goals as goal

-- nothing is marked
no-marks : (m : List ℕ) (n : ℕ) → n ≡ entries → m ≡ replicate n 0 → (l : List ℕ) → MarkedSoFar m l l
no-marks m n e z l = subst (λ (k : List ℕ). MarkedSoFar k l l) (sym (z ∙ ap (λ (i : ℕ). replicate i 0) e)) (found_none l)

pub loop-left-init : goal.loop-left-init
loop-left-init c = no-marks _ _ c.requires.0 c.zero_all.ensures _

pub loop-left-preserved : goal.loop-left-preserved
loop-left-preserved c =
    let l = c.loop-left in
    let e : l.left - 1 + 1 ≡ l.left = omega arith in
    rw (c.mark.ensures.marks, e) (found-on (rw (up_to-on l.left c.loop-left-test.true) at l.invariant))

pub returns : goal.returns
returns c = let l = c.loop-left in found_all (rw (up_to-end l.left c.loop-left-test.false) at l.invariant)
