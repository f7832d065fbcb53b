use mathlib.Core.Path.{◌≡◌, ap}
use mathlib.Core.List.{List, [], ◌∷◌}
use native.Mathlib.Omega.{arith}
use lib.IntN.{ℤ, pos}
use mir.Syntax.{w32}
use mir.Val.{to_z, of_z}
use mir.Facts.{to_z-of_z}
use Rattle.splits.specs.Halves.{demand_words}
use Rattle.splits.proofs.tables.append_demand.Goals as goal

pub append_rule-requires : goal.append_rule-requires
append_rule-requires c = let p = c.requires in record { rules = p.rules; short = omega (arith, p.short, p.wide.0); wide = p.wide.1 }

-- the words of the constraint, as they were put
pub returns : goal.returns
returns c =
    let s = c in
    let e : ◌≡◌ {A = List ℤ} (pos 0 ∷ pos 0 ∷ pos 0 ∷ pos 1 ∷ to_z w32 (of_z w32 s.args.literal) ∷ []) (demand_words s.args.literal) = ap demand_words (to_z-of_z s.ranges.literal) in
    rw e at c.append_rule.ensures
