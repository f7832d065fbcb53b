-- The loop: the assignment has grown, by a variable or more with each sweep.
use mathlib.Core.Path.{◌≡◌, refl, sym, ◌∙◌}
use mathlib.Core.Bool.{true≢false}
use native.Mathlib.Omega.{arith}
use Rattle.propagation.specs.Propagate.{Sweeps, Settles}
use Rattle.propagation.specs.declared.Swept.{Swept}
use Rattle.propagation.specs.declared.Swept.TheVariants.{Refuted, Changed, Same}
use Rattle.propagation.proofs.Closures.{grows-not, grows-on, clashes-before}
use Rattle.propagation.proofs.settle.Goals as goal
use Rattle.propagation.proofs.settle.Goals.{Then-ne, Else-ne}

pub loop-round-init : goal.loop-round-init
loop-round-init c = (grows-not, omega arith)

pub sweep-swept-requires : goal.sweep-swept-requires
sweep-swept-requires c = record { encoded = c.requires.encoded; size = c.loop-round.invariant.0.size ∙ c.requires.size }

-- the sweep found a conflict, or nothing that follows
ended : (c : Then-ne) (x : Swept) → c.sweep-swept.result ≡ x → Sweeps c.args.nogoods.now c.loop-round.assignment c.sweep-swept.new.assignment x
    → Settles c.args.nogoods.now c.args.rounds c.args.assignment.now c.sweep-swept.new.assignment x
ended c Refuted e t = clashes-before _ _ _ c.loop-round.invariant.0 t
ended c Changed e t = absurd (true≢false (sym c.if-ne.true ∙ (rw e at c.ne.ensures)))
ended c Same e t = rw t.0 (c.loop-round.invariant.0, t.1)

pub returns-then-ne : goal.returns-then-ne
returns-then-ne c = ended c _ refl c.sweep-swept.ensures

-- it assigned a variable
went : (c : Else-ne) (x : Swept) → c.sweep-swept.result ≡ x → Sweeps c.args.nogoods.now c.loop-round.assignment c.sweep-swept.new.assignment x
    → Sweeps c.args.nogoods.now c.loop-round.assignment c.sweep-swept.new.assignment Changed
went c Refuted e t = absurd (true≢false (sym (rw e at c.ne.ensures) ∙ c.if-ne.false))
went c Changed e t = t
went c Same e t = absurd (true≢false (sym (rw e at c.ne.ensures) ∙ c.if-ne.false))

pub loop-round-preserved : goal.loop-round-preserved
loop-round-preserved c =
    let v = c.loop-round.invariant in
    let t = went c _ refl c.sweep-swept.ensures in
    (grows-on v.0 t.0, omega (arith, t.1, v.1))

pub returns : goal.returns
returns c = let v = c.loop-round.invariant in (v.0, omega (arith, v.1, c.loop-round-test.false))
