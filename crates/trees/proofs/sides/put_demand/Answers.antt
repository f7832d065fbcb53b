use mathlib.Core.Path.{◌≡◌, ap}
use mathlib.Core.List.{List, [], ◌∷◌}
use native.Mathlib.Omega.{arith}
use lib.IntN.{ℤ, pos}
use mir.Syntax.{w32}
use mir.Val.{to_z, of_z}
use mir.Facts.{to_z-of_z}
use Rattle.words.proofs.Parts.{tail-filled}
use Rattle.splits.specs.Halves.{demand_words}
use Rattle.trees.proofs.Constraints.{put-behind}
use Rattle.trees.proofs.sides.put_demand.Goals as goal
use Rattle.trees.proofs.sides.put_demand.Goals.{After-copy}

-- the words of the constraint, as they were put
module _ (c : After-copy) where
  abbrev row : List ℤ
  row = pos 0 ∷ pos 0 ∷ pos 0 ∷ pos 1 ∷ to_z w32 (of_z w32 c.args.literal) ∷ []

  row_is : row ≡ demand_words c.args.literal
  row_is = ap demand_words (to_z-of_z c.ranges.literal)

pub returns : goal.returns
returns c =
    let a = (goal.at.returns c).After-copy.args in
    let z = c.zero_all in
    let k = put-behind a.used a.table.now (omega (arith, (goal.at.returns c).After-copy.requires)) (row (goal.at.returns c).After-copy) c.copy.new.destination (tail-filled a.used a.table.now (pos 0) z.new.items (omega (arith, (goal.at.returns c).After-copy.requires)) z.ensures) c.copy.ensures in
    rw (row_is (goal.at.returns c).After-copy) at k
