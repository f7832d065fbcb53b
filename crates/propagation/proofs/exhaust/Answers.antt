-- More sweeps than there are entries cannot each assign a variable.
use mathlib.Core.Path.{◌≡◌, refl, ap, ◌∙◌}
use mathlib.Core.Bool.{true, false}
use Prim.Native.Nat.{ℕ, ◌+◌}
use native.Mathlib.Omega.{arith}
use lib.ListN.{replicate}
use Rattle.words.specs.Limits.{entries}
use Rattle.propagation.specs.Propagate.{Settles, Ends}
use Rattle.propagation.specs.declared.Swept.{Swept}
use Rattle.propagation.specs.declared.Swept.TheVariants.{Refuted, Changed, Same}
use Rattle.propagation.proofs.Assignments.{free-most}
use Rattle.propagation.proofs.exhaust.Goals as goal
use Rattle.propagation.proofs.exhaust.Goals.{After-eq}

ends : (c : After-eq) (x : Swept) → c.settle-swept.result ≡ x
    → Settles c.args.nogoods.now (entries + 1) c.args.assignment.now c.settle-swept.new.assignment x
    → Ends c.args.nogoods.now c.args.assignment.now c.eq.result
ends c Refuted e t = let q : c.eq.result ≡ true = rw e at c.eq.ensures in rw q t
ends c Changed e t = absurd (omega (arith, t.1, free-most c.args.assignment.now, c.requires.size))
ends c Same e t = let q : c.eq.result ≡ false = rw e at c.eq.ensures in rw q (c.settle-swept.new.assignment, t.0, t.1)

pub returns-clause-decided : goal.returns-clause-decided
returns-clause-decided c = ends c _ refl c.settle-swept.ensures

pub returns-clause-free : goal.returns-clause-free
returns-clause-free c = c.zero_all.ensures ∙ ap (λ (n : ℕ). replicate n 0) c.settle-swept.array_long
