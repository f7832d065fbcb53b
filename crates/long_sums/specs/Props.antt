-- A rule of the table is held in one way at most, as a ghost field asks. Assumes nothing.
use Rattle.std.specs.Prelude.{ℕ}
use denote.Struct.Props as logic
use Rattle.aspif.specs.Rules.{Body, plain, weights}
use Rattle.aspif.specs.Claims.{WeighingWithin}

pub weighing-prop : (most : ℕ) (b : Body) → IsProp (WeighingWithin most b)
weighing-prop most (plain ls) = Prim.hlevel logic.props
weighing-prop most (weights b l) = Prim.hlevel logic.props
