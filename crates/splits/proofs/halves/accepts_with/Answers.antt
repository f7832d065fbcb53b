use mathlib.Core.Path.{◌≡◌, sym, ap}
use mathlib.Core.List.{List}
use Prim.Native.Nat.{ℕ, ◌+◌, ◌≤◌}
use native.Mathlib.Omega.{arith}
use lib.IntN.{pos}
use lib.ListN.{length, replicate, length-replicate}
use mir.Facts.{to_z-of_z}
use Rattle.words.specs.Literals.{complement}
use Rattle.aspif.specs.Rules.{InputRule}
use Rattle.steps.specs.Held.{Program}
use Rattle.merging.specs.Claims.{demanding_as_written}
use Rattle.splits.proofs.Demands.{demanded, demanded-bodies}
use Rattle.splits.proofs.halves.accepts_with.Goals as goal
use Rattle.splits.proofs.halves.accepts_with.Goals.{After-append_demand}

-- zeros are as long as they are
blank : (n : ℕ) → (n ≤ length (replicate n (pos 0))) × (replicate n (pos 0) ≡ replicate (length (replicate n (pos 0))) (pos 0))
blank n = (omega (arith, length-replicate n (pos 0)), ap (λ (k : ℕ). replicate k (pos 0)) (sym (length-replicate n (pos 0))))

pub append_demand-requires : goal.append_demand-requires
append_demand-requires c = let p = c.requires in record { rules = p.program.0.1.holds.sound; short = p.short; wide = blank 65565 }

-- the program with the constraint
module _ (c : After-append_demand) where
  whole : {ws : List InputRule} → Program c.args.table.now c.args.rules c.args.atoms ws
      → Program c.append_demand.new.wide (c.args.rules + 1) c.args.atoms (demanding_as_written ws (complement c.args.literal))
  whole p = let k = rw (to_z-of_z c.ranges.literal) at c.append_demand.ensures in demanded p c.args.literal c.requires.atom k.0 k.1

pub accepts-requires : goal.accepts-requires
accepts-requires c = let d = (goal.at.accepts-requires c).After-append_demand in
    let p = d.requires in
    let q = p.program.0.1 in
    let w = whole d q in record { program = ((demanding_as_written p.program.0.0 (complement d.args.literal), w), omega (arith, p.program.1)); start = p.start; bodies = demanded-bodies q d.args.literal p.atom w p.bodies; empty = p.empty }

pub returns : goal.returns
returns c = let a = c.accepts.ensures in
    let d = (goal.at.returns c).After-append_demand in record { empty = a.empty; checked = λ ws p. a.checked (demanding_as_written ws (complement d.args.literal)) (whole d p) }
