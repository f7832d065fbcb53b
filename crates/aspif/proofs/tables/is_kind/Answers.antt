use mathlib.Core.Path.{ap₂}
use mathlib.Core.Bool.{◌||◌}
use mir.Facts.{to_z-of_z}
use Rattle.aspif.proofs.tables.is_kind.Goals as goal

pub returns : goal.returns
returns c =
    let f = c.ranges.word in
    ap₂ (λ a b. a || b) (rw (to_z-of_z f) at c.is_same.ensures) (rw (to_z-of_z f) at c.is_same-2.ensures)
